use Rattle.std.proofs.Common.{◌≡◌, ◌+◌, ◌-◌, length, Err, ◌++◌, ◌∷◌, ℕ, List, Option, None, Ok, ◌∙◌, sym, ap, subst}
use Rattle.std.proofs.Common.{arith}
use Rattle.ls_sums.specs.Crc64.{IsBehind}
use Rattle.ltx_reader.specs.declared.progress.Progress.TheVariants.{Going}
use Rattle.ltx_reader.specs.Reader.{Reader, bytes_named, IsReaderOf, Waits, RepeatsNumber, Announces, next_block}
use Rattle.ltx_reader.specs.Reader.{pages_left}
use Rattle.ltx_reader.specs.ReaderGiven.{GivesAtMost}
use Rattle.ltx_reader.specs.ReaderSteps.{Passes, StandAt, reaches}
use Rattle.ltx_reader.proofs.ReaderGivenLemmas.{gives_then}
use Rattle.ltx_reader.proofs.ReaderPageLemmas.{page_stopped, number_inside, read_past, left_for_page, as_before}
use Rattle.ltx_reader.proofs.ReaderPageLemmas.{disk_stops, err_same}
use Rattle.ltx_reader.proofs.ReaderProgressLemmas.{page_reads, page_given}
use Rattle.ltx_reader.proofs.reader.LtxReader.next_page.Goals as goal

pub returns-in_err-fill_page-clause-keeps : goal.returns-in_err-fill_page-clause-keeps
returns-in_err-fill_page-clause-keeps g c = λ events told is.
    let bytes = bytes_named events c.args.self.now.name in
    let mid = c.number.new.self in
    let waits = subst (λ (o : Option ℕ). Waits mid.progress (Ok o)) c.in-Some.is c.in_ok-number.ensures.waits in
    let kept = c.in_ok-number.ensures.keeps events told is in
    let found = subst (λ (q : List ℕ). Passes {T = Unit {0}} (λ _. StandAt (bytes_named events q)
    (next_block mid + 6) mid.header.size c.fill_page.new.into) (reaches (bytes_named events q)
    (next_block mid + 6) mid.header.size) (Err c.in_err-fill_page.field-0.0))
    c.in_ok-number.ensures.same_file.name (c.in_err-fill_page.ensures.value events
    (c.in_ok-number.ensures.unchanged ∙ told)) in
    subst (λ (r : Reader). IsReaderOf bytes r) (sym c.in_err-fill_page.ensures.now)
    (page_stopped bytes mid c.in-Some.number kept waits {T = Unit {0}} (λ _. StandAt bytes
    (next_block mid + 6) mid.header.size c.fill_page.new.into) c.in_err-fill_page.field-0.0 found)

pub returns-in_err-fill_page-clause-still : goal.returns-in_err-fill_page-clause-still
returns-in_err-fill_page-clause-still g c = λ why is.
    let mid = c.number.new.self in
    let waits = subst (λ (o : Option ℕ). Waits mid.progress (Ok o)) c.in-Some.is c.in_ok-number.ensures.waits in
    let fault = err_same c.from_residual-in_err-fill_page.result c.in_err-fill_page.field-0.0 why
    c.from_residual-in_err-fill_page.ensures.1 is in
    as_before c.args.self.now mid c.fill_page.new.self c.in-Some.number c.in_ok-number.ensures.stays waits
    (c.in_err-fill_page.ensures.now ∙ disk_stops c.in_err-fill_page.field-0.0 why mid fault)

pub returns-in_err-fill_page-clause-gave : goal.returns-in_err-fill_page-clause-gave
returns-in_err-fill_page-clause-gave g c = λ events told is.
    let bytes = bytes_named events c.args.self.now.name in
    let mid = c.number.new.self in
    let waits = subst (λ (o : Option ℕ). Waits mid.progress (Ok o)) c.in-Some.is c.in_ok-number.ensures.waits in
    let again = subst (λ (o : Option ℕ). RepeatsNumber c.args.self.now.progress
    (Ok o)) c.in-Some.is c.in_ok-number.ensures.again in
    let kept = c.in_ok-number.ensures.keeps events told is in
    let inside = number_inside bytes mid c.in-Some.number kept waits in
    let page = subst (λ (q : List ℕ). GivesAtMost (length (bytes_named events q) - (next_block mid + 6))
    (g.D.Disk.given c.number.new.disk) (g.D.Disk.given c.fill_page.new.disk))
    c.in_ok-number.ensures.same_file.name (c.in_err-fill_page.ensures.gave events
    (c.in_ok-number.ensures.unchanged ∙ told)) in
    gives_then _ _ _ _ _ _ (c.in_ok-number.ensures.gave_number c.in-Some.number (ap (λ o. Ok o) c.in-Some.is)) page
    (left_for_page bytes c.args.self.now mid c.in-Some.number _ c.in_ok-number.ensures.same_file
    c.in_ok-number.ensures.stays waits again inside (omega arith))

pub returns-clause-page : goal.returns-clause-page
returns-clause-page g c = λ events told is.
    let bytes = bytes_named events c.args.self.now.name in
    let mid = c.number.new.self in
    let waits = subst (λ (o : Option ℕ). Waits mid.progress (Ok o)) c.in-Some.is c.in_ok-number.ensures.waits in
    let kept = c.in_ok-number.ensures.keeps events told is in
    let announced = subst (λ (o : Option ℕ). Announces bytes c.args.self.now mid o) c.in-Some.is
    (c.in_ok-number.ensures.number events told is) in
    let page = subst (λ (q : List ℕ). (reaches (bytes_named events q)
    (next_block mid + 6) mid.header.size ≡ None) × StandAt (bytes_named events q)
    (next_block mid + 6) mid.header.size c.fill_page.new.into) c.in_ok-number.ensures.same_file.name
    (c.in_ok-fill_page.ensures.value events (c.in_ok-number.ensures.unchanged ∙ told)) in
    let new : c.take_page.new.self ≡ record mid {
      count = mid.count + 1;
      last = c.in-Some.number;
      sum =
          c.take_page.new.self.sum;
      progress = Going;
    } =
    c.take_page.ensures.now ∙ ap (λ (r : Reader). record r {
      count = r.count + 1;
      last = c.in-Some.number;
      sum =
          c.take_page.new.self.sum;
      progress = Going;
    }) c.in_ok-fill_page.ensures.now in
    sym announced.3 ∙ page_given bytes mid c.in-Some.number kept waits c.fill_page.new.into c.take_page.new.self.sum
    page.0 page.1
    ∙ ap (λ (r : Reader). (c.in-Some.number, c.fill_page.new.into) ∷ pages_left bytes r) (sym new)

pub returns-clause-keeps : goal.returns-clause-keeps
returns-clause-keeps g c = λ events told is.
    let bytes = bytes_named events c.args.self.now.name in
    let mid = c.number.new.self in
    let waits = subst (λ (o : Option ℕ). Waits mid.progress (Ok o)) c.in-Some.is c.in_ok-number.ensures.waits in
    let kept = c.in_ok-number.ensures.keeps events told is in
    let page = subst (λ (q : List ℕ). (reaches (bytes_named events q)
    (next_block mid + 6) mid.header.size ≡ None) × StandAt (bytes_named events q)
    (next_block mid + 6) mid.header.size c.fill_page.new.into) c.in_ok-number.ensures.same_file.name
    (c.in_ok-fill_page.ensures.value events (c.in_ok-number.ensures.unchanged ∙ told)) in
    let new : c.take_page.new.self ≡ record mid {
      count = mid.count + 1;
      last = c.in-Some.number;
      sum =
          c.take_page.new.self.sum;
      progress = Going;
    } =
    c.take_page.ensures.now ∙ ap (λ (r : Reader). record r {
      count = r.count + 1;
      last = c.in-Some.number;
      sum =
          c.take_page.new.self.sum;
      progress = Going;
    }) c.in_ok-fill_page.ensures.now in
    let goes = subst (λ (r : Reader). (before : List ℕ) → IsBehind before r.sum
    → IsBehind (before ++ c.fill_page.new.into) c.take_page.new.self.sum) c.in_ok-fill_page.ensures.now
    c.take_page.ensures.sum in
    subst (λ (r : Reader). IsReaderOf bytes r) (sym new)
    (page_reads bytes mid c.in-Some.number kept waits c.fill_page.new.into c.take_page.new.self.sum page.0 page.1
    goes)

pub returns-clause-gave : goal.returns-clause-gave
returns-clause-gave g c = λ events told is.
    let bytes = bytes_named events c.args.self.now.name in
    let mid = c.number.new.self in
    let waits = subst (λ (o : Option ℕ). Waits mid.progress (Ok o)) c.in-Some.is c.in_ok-number.ensures.waits in
    let again = subst (λ (o : Option ℕ). RepeatsNumber c.args.self.now.progress
    (Ok o)) c.in-Some.is c.in_ok-number.ensures.again in
    let kept = c.in_ok-number.ensures.keeps events told is in
    let inside = number_inside bytes mid c.in-Some.number kept waits in
    let page = subst (λ (q : List ℕ). GivesAtMost (length (bytes_named events q) - (next_block mid + 6))
    (g.D.Disk.given c.number.new.disk) (g.D.Disk.given c.fill_page.new.disk))
    c.in_ok-number.ensures.same_file.name (c.in_ok-fill_page.ensures.gave events
    (c.in_ok-number.ensures.unchanged ∙ told)) in
    gives_then _ _ _ _ _ _ (c.in_ok-number.ensures.gave_number c.in-Some.number (ap (λ o. Ok o) c.in-Some.is)) page
    (left_for_page bytes c.args.self.now mid c.in-Some.number _ c.in_ok-number.ensures.same_file
    c.in_ok-number.ensures.stays waits again inside (omega arith))

pub returns-clause-gave_page : goal.returns-clause-gave_page
returns-clause-gave_page g c = λ n is.
    let mid = c.number.new.self in
    let waits = subst (λ (o : Option ℕ). Waits mid.progress (Ok o)) c.in-Some.is c.in_ok-number.ensures.waits in
    let new : c.take_page.new.self ≡ record mid {
      count = mid.count + 1;
      last = c.in-Some.number;
      sum =
          c.take_page.new.self.sum;
      progress = Going;
    } =
    c.take_page.ensures.now ∙ ap (λ (r : Reader). record r {
      count = r.count + 1;
      last = c.in-Some.number;
      sum =
          c.take_page.new.self.sum;
      progress = Going;
    }) c.in_ok-fill_page.ensures.now in
    gives_then _ _ _ _ _ _ (c.in_ok-number.ensures.gave_number c.in-Some.number (ap
    (λ o. Ok o) c.in-Some.is)) c.in_ok-fill_page.ensures.gave_room
    (read_past c.args.self.now mid c.take_page.new.self c.in-Some.number c.take_page.new.self.sum
    c.in_ok-number.ensures.same_file c.in_ok-number.ensures.stays waits new)

pub returns-clause-counted : goal.returns-clause-counted
returns-clause-counted g c = λ n is.
    let mid = c.number.new.self in
    let new : c.take_page.new.self ≡ record mid {
      count = mid.count + 1;
      last = c.in-Some.number;
      sum =
          c.take_page.new.self.sum;
      progress = Going;
    } =
    c.take_page.ensures.now ∙ ap (λ (r : Reader). record r {
      count = r.count + 1;
      last = c.in-Some.number;
      sum =
          c.take_page.new.self.sum;
      progress = Going;
    }) c.in_ok-fill_page.ensures.now in
    record {
      count = ap (λ (r : Reader). r.count) new ∙ ap (λ (k : ℕ). k + 1) c.in_ok-number.ensures.stays.count;
      going = ap (λ (r : Reader). r.progress) new;
    }
