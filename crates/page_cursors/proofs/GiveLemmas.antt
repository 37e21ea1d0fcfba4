-- What a cursor's page makes of the cursor.
use Rattle.std.proofs.Common.{◌≡◌, ℕ, ◌+◌, List, [], ◌∷◌, ◌++◌, Option, Some, None, refl, sym, ap, subst}
use Rattle.std.proofs.Common.{◌∙◌, append_assoc, arith}
use Rattle.std.specs.Prelude.{Result, Ok, Err, IfOk, IfErr}
use Rattle.std.specs.List.{Contains}
use Rattle.crash_disk.specs.Files.{Files}
use Rattle.ls_base.specs.PageSize.{lock_page}
use Rattle.ltx_reader.specs.declared.progress.Progress.TheVariants.{AtNumber}
use Rattle.ltx_reader.specs.Reader.{Reader, IsReaderOf, pages_left, pages_of, Announces}
use Rattle.replica_store.specs.Listing.{path_of}
use Rattle.page_cursors.specs.declared.cursor.Cursor.{Cursor}
use Rattle.page_cursors.specs.declared.wanted.Wanted.{Wanted}
use Rattle.page_cursors.specs.Blocks.{Blocks, numbers_of}
use Rattle.page_cursors.specs.Cursor.{bytes_of, ReadsFile, IsOpen, HasGiven, WaitsNext, GivesPage, KeepsFile, commit_of}
use Rattle.page_cursors.specs.Wanted.{AreBelow, Wants}
use Rattle.page_cursors.proofs.BlockLemmas.{numbers-push, below-push, below-more}
use Rattle.page_cursors.proofs.ReaderLemmas.{Turns, turned, number_fits, still_left}

pub if_ok : {T E : Type 0} (r : Result T E) (P : T → Type 0) → ((x : T) → r ≡ Ok x → P x) → IfOk r P
if_ok (Ok x) P is = is x refl
if_ok (Err e) P is = tt

pub if_err : {T E : Type 0} (r : Result T E) (P : E → Type 0) → ((e : E) → r ≡ Err e → P e) → IfErr r P
if_err (Ok x) P is = tt
if_err (Err e) P is = is e refl

-- what a cursor's calls do, over the bytes of its file
pub record Advances (files : Files) (number : ℕ) (old new : Cursor) (mid : Reader) (page : List ℕ)
    (given next : Option ℕ) : Type 0 where
  pub turns : ReadsFile files old.name old.reader → Turns
      (bytes_of files old.name) old.reader mid new.reader page given next
  pub same_file : KeepsFile old new
  pub takes : (lock above : ℕ) (numbers : List ℕ) → AreBelow numbers number → Wants lock above numbers old.wanted
      → Wants lock above (numbers ++ number ∷ []) new.wanted

still_open : (files : Files) (size : ℕ) (old new : Cursor) → KeepsFile old new → IsOpen files size old
    → IsReaderOf (bytes_of files old.name) new.reader → IsOpen files size new
still_open files size old new same is reads = record {
  reads = record {
    named = same.path ∙ is.reads.named ∙ ap path_of (sym same.name);
    reads = subst (λ name. IsReaderOf (bytes_of files name) new.reader) (sym same.name) reads;
  };
  from_min = ap (λ h. h.min) same.header ∙ is.from_min ∙ ap (λ name. name.min) (sym same.name);
  to_max = ap (λ h. h.max) same.header ∙ is.to_max ∙ ap (λ name. name.max) (sym same.name);
  sized = ap (λ h. h.size) same.header ∙ is.sized;
}

waits_next : (bytes : List ℕ) (mid : Reader) (new : Cursor) (number : ℕ) (next : Option ℕ)
    → IsReaderOf bytes new.reader → mid.last ≡ number
    → ((n : ℕ) → next ≡ Some n → new.reader.progress ≡ AtNumber n) → ((n : ℕ) → next ≡ Some n
    → new.reader.last ≡ mid.last) → Announces bytes mid new.reader next → WaitsNext new number next
waits_next bytes mid new number None is last waits stays announces = announces.1
waits_next bytes mid new number (Some n) is last waits stays announces =
    let at = waits n refl in
    let fits = (number_fits bytes new.reader n is at).0 in
    let same = stays n refl in
    (at, omega (arith, fits, same, last))

pub gives_page : (files : Files) (number : ℕ) (old new : Cursor) (mid : Reader) (page : List ℕ)
    (given next : Option ℕ) → Advances files number old new mid page given next
    → GivesPage files number old new page next
gives_page files number old new mid page given next advances = record {
  gives = λ size before front at has.
      let bytes = bytes_of files old.name in
      let turn = turned bytes old.reader mid new.reader page given next number has.open_file.reads.reads at
      (advances.turns has.open_file.reads) in
      let same = advances.same_file in
      let fits = number_fits bytes old.reader number has.open_file.reads.reads at in
      let numbers = numbers-push front number page in
      record {
        open_file = still_open files size old new same has.open_file turn.1;
        split = subst (λ name. pages_of (bytes_of files name) ≡ (front ++ (number, page) ∷ []) ++ pages_left
            (bytes_of files name) new.reader) (sym same.name)
            (has.split ∙ ap (λ (left : Blocks). front ++ left) turn.0
            ∙ sym (append_assoc front ((number, page) ∷ []) (pages_left bytes new.reader)));
        low = subst (λ (ns : List ℕ). AreBelow ns (number + 1)) (sym numbers) (below-push (numbers_of front) number
            (number + 1) (below-more (numbers_of front) number (number + 1) (omega arith) has.low) (omega arith));
        within = subst (λ (ns : List ℕ). AreBelow ns (commit_of new + 1)) (sym numbers)
            (subst (λ (c : ℕ). AreBelow (numbers_of front ++ number ∷ []) (c + 1)) (ap (λ h. h.commit)
            (sym same.header))
            (below-push (numbers_of front) number (commit_of old + 1) has.within (omega (arith, fits.1))));
        wants = subst (λ (ns : List ℕ). Wants (lock_page size) before ns new.wanted) (sym numbers) (advances.takes
            (lock_page size) before (numbers_of front) has.low has.wants);
      };
  waits = λ size before front at has.
      let bytes = bytes_of files old.name in
      let turns = advances.turns has.open_file.reads in
      let turn = turned bytes old.reader mid new.reader page given next number has.open_file.reads.reads at turns in
      waits_next bytes mid new number next turn.1 turn.2 turns.waits turns.stays (turns.announces
      (turns.keeps has.open_file.reads.reads));
}

-- ---- a cursor that is asked for its first number

pub record Asks (files : Files) (old new : Cursor) (next : Option ℕ) : Type 0 where
  pub announces : ReadsFile files old.name old.reader → Announces (bytes_of files old.name) old.reader new.reader next
  pub keeps : ReadsFile files old.name old.reader → IsReaderOf (bytes_of files old.name) new.reader
  pub waits : (n : ℕ) → next ≡ Some n → new.reader.progress ≡ AtNumber n
  pub same_file : KeepsFile old new
  pub same_wanted : new.wanted ≡ old.wanted

none_held : (p : ℕ) → Contains [] p → ⊥
none_held p (k, low, e) = omega (arith, low)

pub asked_given : (files : Files) (size before : ℕ) (old new : Cursor) (next : Option ℕ) → Asks files old new next
    → HasGiven files size 1 before old [] → HasGiven files size 1 before new []
asked_given files size before old new next asks has =
    let bytes = bytes_of files old.name in
    let same = asks.same_file in
    record {
      open_file = still_open files size old new same has.open_file (asks.keeps has.open_file.reads);
      split = subst (λ name. pages_of (bytes_of files name) ≡ [] ++ pages_left (bytes_of files name) new.reader)
          (sym same.name)
          (has.split ∙ sym (still_left bytes old.reader new.reader next (asks.announces has.open_file.reads)));
      low = has.low;
      within = λ p held. absurd (none_held p held);
      wants = subst (λ (w : Wanted). Wants (lock_page size) before [] w) (sym asks.same_wanted) has.wants;
    }

pub asked_waits : (files : Files) (size before : ℕ) (old new : Cursor) (next : Option ℕ) → Asks files old new next
    → HasGiven files size 1 before old [] → WaitsNext new 0 next
asked_waits files size before old new None asks has = (asks.announces has.open_file.reads).1
asked_waits files size before old new (Some n) asks has =
    let at = asks.waits n refl in
    let fits = (number_fits (bytes_of files old.name) new.reader n (asks.keeps has.open_file.reads) at).0 in
    (at, omega (arith, fits))
