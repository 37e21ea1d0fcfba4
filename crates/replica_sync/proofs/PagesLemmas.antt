-- The first pages of what was found are put, and one more.
use Rattle.std.proofs.Common.{◌≡◌, ℕ, ◌+◌, ◌<◌, ◌≤◌, Bool, true, false, cond, List, Option, Some, Ok, refl, sym, ap}
use Rattle.std.proofs.Common.{subst, ◌∙◌, ⊎_elim, nat_cmp, arith}
use Rattle.std.specs.Prelude.{◌≢◌, ◌↔◌, IsSome, is_some}
use Rattle.std.specs.FinMap.{get, empty, insert, get-insert, get-empty}
use Rattle.std.specs.Cmp.{nat_cmp_total, unsigned_tied}
use Rattle.std.proofs.lemmas.Bool.{cases_eq, cases_lt, ne_eqb}
use Rattle.std.proofs.lemmas.Option.{none-some}
use Rattle.crash_disk.specs.Told as disk
use Rattle.ls_base.proofs.ChangeLemmas.{get-insert_at}
use Rattle.ls_base.specs.State.{page_of}
use Rattle.live_gate.specs.LiveRecord.{LiveRecord, Told, GoesOn, IfTold}
use Rattle.live_gate.specs.Step.{IsWriterStep}
use Rattle.live_gate.proofs.StepLemmas.{step_join}
use Rattle.ltx_format.specs.Writing.{PageMap}
use Rattle.wal_follow.specs.declared.answer.Found.{Found}
use Rattle.wal_follow.specs.declared.following.Following.{Following}
use Rattle.wal_follow.specs.Following.{Fits}
use Rattle.wal_follow.specs.Calls.{target_of}
use Rattle.replica_sync.specs.declared.page_file.PageFile.{PageFile}
use Rattle.replica_sync.specs.Pages.{ArePagesOf, number_at}
use Rattle.replica_sync.specs.PageFile.{GainsPage, PutsPages}
use Rattle.replica_sync.specs.Reading.{ReadsPage}
use Rattle.replica_sync.proofs.LiveLemmas.{calm_before, still_shown}

other_page : (m : PageMap) (k : ℕ) (v : List ℕ) (q : ℕ) → q ≢ k → get (insert m k v) q ≡ get m q
other_page m k v q other = get-insert nat_cmp_total m k v q
    ∙ ap (λ (b : Bool). cond b (Some v) (get m q)) (unsigned_tied q k ∙ ne_eqb q k other)

same_page : (a b : List ℕ) → ◌≡◌ {A = Option (List ℕ)} (Some a) (Some b) → a ≡ b
same_page a b e = cc

same_record : (a b : LiveRecord) → ◌≡◌ {A = Told} (Some a) (Some b) → a ≡ b
same_record a b e = cc

no_page : (p : ℕ) → IsSome (get {X = List ℕ} {R = nat_cmp} empty p) → ⊥
no_page p there = let e : false ≡ true = sym (ap is_some (get-empty nat_cmp p)) ∙ there in cc

-- ---- none yet

pub none_put : (found : Found) (file : PageFile) (now : disk.Told) (live : Told)
    → PutsPages found 0 file file now now live live
none_put found file now live begun has = record {
  pages = empty;
  has = has;
  numbers = λ p. (λ there. absurd (no_page p there), λ before. absurd (omega (arith, before.1)));
  shows = record {
    each = λ old new a b legal calm s shown p page is. absurd (none-some page (sym (get-empty nat_cmp p) ∙ is));
  };
}

-- ---- one more

module _ (found : Found) (at : ℕ) (page : List ℕ) (pages : PageMap) where
  abbrev more : PageMap
  more = insert pages (number_at found at) page

  pub numbers_more : ((p : ℕ) → IsSome (get pages p) ↔ ((k : ℕ) × (k < at) × (number_at found k ≡ p)))
      → (p : ℕ) → IsSome (get more p) ↔ ((k : ℕ) × (k < at + 1) × (number_at found k ≡ p))
  numbers_more numbers p =
      ⊎_elim
      (λ (here : p ≡ number_at found at). (
        λ there. (at, omega arith, sym here),
        λ before. ap is_some (ap (get more) here ∙ get-insert_at pages (number_at found at) page),
      ))
      (λ (other : p ≢ number_at found at).
      let same = other_page pages (number_at found at) page p other in (
        λ there. let was = (numbers p).0 (ap is_some (sym same) ∙ there) in (was.0, omega (arith, was.1), was.2),
        λ before.
            let k : before.0 < at = ⊎_elim (λ (low : before.0 < at). low)
            (λ (high : at ≤ before.0).
            let is : before.0 ≡ at = omega (arith, high, before.1) in
            absurd (other (sym before.2 ∙ ap (number_at found) is))) (cases_lt before.0 at) in
            ap is_some same ∙ (numbers p).1 (before.0, k, before.2),
      ))
      (cases_eq p (number_at found at))

  module _ (f : Following) (live_old live_mid live_new : Told) (is_found : f.found ≡ Some (target_of found))
      (moves : GoesOn live_old live_mid (λ r after. IsWriterStep r.database after.database))
      (fits : IfTold live_old (λ r. Fits f r.database))
      (reads : GoesOn live_mid live_new (ReadsPage f found (number_at found at) (Ok tt) page)) where
    pub shows_more : ArePagesOf (target_of found) live_old live_mid pages
        → ArePagesOf (target_of found) live_old live_new more
    shows_more shows = record {
      each = λ old new is_old is_new legal calm s shown p found_page is.
          let mid = moves.told old is_old in
          let after = reads.told mid.0 mid.1 in
          let same : after.0 ≡ new = same_record after.0 new (sym after.1 ∙ is_new) in
          let read : ReadsPage f found (number_at found at) (Ok tt) page mid.0 new =
          subst (λ (r : LiveRecord). ReadsPage f found (number_at found at) (Ok tt) page mid.0 r) same after.2 in
          let step = step_join old.database mid.0.database new.database mid.2 read.reads.step in
          let now_shown = still_shown f (target_of found) old.database new.database s step (read.awake refl)
          (fits old is_old) is_found legal calm shown in
          ⊎_elim
          (λ (here : p ≡ number_at found at).
          let bytes : page ≡ found_page = same_page page found_page
          (sym (get-insert_at pages (number_at found at) page) ∙ sym (ap (get more) here) ∙ is) in
          ap (page_of s) here ∙ read.value refl calm s now_shown.view ∙ ap (λ (b : List ℕ). Some b) bytes)
          (λ (other : p ≢ number_at found at).
          shows.each old mid.0 is_old mid.1 legal (calm_before mid.0.database new.database read.reads.step calm) s shown
          p found_page (sym (other_page pages (number_at found at) page p other) ∙ is))
          (cases_eq p (number_at found at));
    }

pub put_more : (found : Found) (at : ℕ) (page : List ℕ) (f : Following) (before mid after : PageFile)
    (old now new : disk.Told) (live_old live_mid live_new : Told) → f.found ≡ Some (target_of found)
    → GoesOn live_old live_mid (λ r next. IsWriterStep r.database next.database)
    → IfTold live_old (λ r. Fits f r.database)
    → GoesOn live_mid live_new (ReadsPage f found (number_at found at) (Ok tt) page)
    → PutsPages found at before mid old now live_old live_mid
    → GainsPage mid after (number_at found at) page now new
    → PutsPages found (at + 1) before after old new live_old live_new
put_more found at page f before mid after old now new live_old live_mid live_new is_found moves fits reads puts gains
    begun has =
    let first = puts begun has in
    record {
      pages = insert first.pages (number_at found at) page;
      has = gains begun first.pages first.has;
      numbers = numbers_more found at page first.pages first.numbers;
      shows = shows_more found at page first.pages f live_old live_mid live_new is_found moves fits reads first.shows;
    }

-- ---- and the database moved on

pub puts_later : (found : Found) (n : ℕ) (before after : PageFile) (old now : disk.Told)
    (live_old live_mid live_new : Told) (P Q : LiveRecord → LiveRecord → Type 0) → GoesOn live_old live_mid P
    → GoesOn live_mid live_new Q → ((r next : LiveRecord) → Q r next → IsWriterStep r.database next.database)
    → PutsPages found n before after old now live_old live_mid
    → PutsPages found n before after old now live_old live_new
puts_later found n before after old now live_old live_mid live_new P Q first second step puts begun has =
    let put = puts begun has in
    record {
      pages = put.pages;
      has = put.has;
      numbers = put.numbers;
      shows = record {
        each = λ a b is_old is_new legal calm s shown p page is.
            let mid = first.told a is_old in
            let after_mid = second.told mid.0 mid.1 in
            let same : after_mid.0 ≡ b = same_record after_mid.0 b (sym after_mid.1 ∙ is_new) in
            let moved = step mid.0 b (subst (λ (r : LiveRecord). Q mid.0 r) same after_mid.2) in
            put.shows.each a mid.0 is_old mid.1 legal (calm_before mid.0.database b.database moved calm) s shown p page
            is;
      };
    }
