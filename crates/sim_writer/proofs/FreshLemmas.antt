-- The database of a file alone.
use Rattle.std.proofs.Common.{◌≡◌, ℕ, ◌+◌, ◌^◌, ◌≤◌, List, [], ◌∷◌, ◌++◌, length, take, drop}
use Rattle.std.proofs.Common.{Some, None, false}
use Rattle.std.proofs.Common.{refl, sym, ap, subst, ◌∙◌, inr, append_assoc, length-append, arith}
use Rattle.std.specs.List.{concat, slice_get}
use Rattle.std.proofs.lemmas.List.{take-append-le}
use Rattle.std.proofs.lemmas.Option.{slice_get_within}
use Rattle.std.proofs.Math.Nat.{pow-le-pow_right}
use Rattle.ls_base.specs.declared.entry.Entry.{Entry}
use Rattle.ls_base.specs.PageSize.{IsPageSize}
use Rattle.ls_base.specs.History.{HaveOneState, state_of}
use Rattle.db_page.specs.DatabaseHeader.{IsWalDatabase, page_size_field, page_size_of}
use Rattle.wal_frames.specs.declared.header.WalHeader.{WalHeader}
use Rattle.wal_frames.specs.View.{file_page}
use Rattle.sim_writer.specs.declared.machine.Machine.{Machine}
use Rattle.sim_writer.specs.SimState.{IsFirst}
use Rattle.sim_writer.specs.CommitFrames.{SaysSize}
use Rattle.sim_writer.specs.Sound.{IsFresh, IsSound, fresh}
use Rattle.sim_writer.proofs.InFileLemmas.{front_is}
use Rattle.sim_writer.proofs.NumberLemmas.{drop_next}
use Rattle.sim_writer.proofs.RestLemmas.{at_rest, resting_sound}

module _ (h : WalHeader) (file : List ℕ) (e : Entry) (f : IsFresh h file e) where
  one_state : HaveOneState (e ∷ [])
  one_state j k a b at_j at_k same =
      let first = slice_get_within (e ∷ []) j a at_j in
      let second = slice_get_within (e ∷ []) k b at_k in
      let zero_j : j ≡ 0 = omega (arith, first) in
      let zero_k : k ≡ 0 = omega (arith, second) in
      let is_a : Some e ≡ Some a = ap (λ (n : ℕ). slice_get (e ∷ []) n) (sym zero_j) ∙ at_j in
      let is_b : Some e ≡ Some b = ap (λ (n : ℕ). slice_get (e ∷ []) n) (sym zero_k) ∙ at_k in
      let alike : a ≡ b = cc in
      ap state_of alike

  front : take 100 (file_page h.size file 1) ≡ take 100 file
  front =
      let least : 2 ^ 9 ≤ 2 ^ f.is.page_size.0 = pow-le-pow_right (omega arith) f.is.page_size.1 in
      front_is h.size file (omega (arith, f.is.page_size.3, least)) (omega (arith, f.long))

  says : SaysSize h.size (file_page h.size file 1)
  says is = ap (λ (b : List ℕ). page_size_of (page_size_field b)) front ∙ f.says (subst IsWalDatabase front is)

  pub fresh_sound : IsSound (fresh h file e)
  fresh_sound =
      resting_sound h file e f.is says [] [] false None false false 0 f.sums (λ headed. absurd cc) (record {
        recorded = inr (at_rest h file e f.is says []);
        is_copied = λ some. absurd (some refl);
        is_held = λ end held. absurd cc;
        without_twins = λ _. one_state;
      })

-- the same from its parts
abbrev pub made : WalHeader → List ℕ → List Entry → List ℕ → List ℕ → Machine
made h file history committed tail = record {
  history = history;
  before_log = 0;
  file = file;
  committed = committed;
  tail = tail;
  over = 0;
  headed = false;
  head = h;
  sums = record { s0 = h.s0; s1 = h.s1 };
  copied = 0;
  held = None;
  refuses = false;
  stopped = false;
  chances = 0;
}

pub made_is : (h : WalHeader) (file : List ℕ) (e : Entry) (history : List Entry) (committed tail : List ℕ)
    → history ≡ e ∷ [] → committed ≡ [] → tail ≡ [] → made h file history committed tail ≡ fresh h file e
made_is h file e history committed tail p q r = λ i. made h file (p i) (q i) (r i)

-- ---- the first pages

pub first_long : (size : ℕ) (pages : List (List ℕ)) → IsPageSize size → IsFirst size pages → 512 ≤ length (concat pages)
first_long size [] is first = absurd (first.some refl)
first_long size (page ∷ pages) is first =
    let least : 2 ^ 9 ≤ 2 ^ is.0 = pow-le-pow_right (omega arith) is.1 in
    omega (arith, first.sized.0, is.3, least, length-append page (concat pages))

-- the file of these pages says no other page size
pub first_says : (size : ℕ) (pages : List (List ℕ)) → IsPageSize size → IsFirst size pages
    → IsWalDatabase (take 100 (concat pages)) → page_size_of (page_size_field (take 100 (concat pages))) ≡ size
first_says size [] is first database = absurd (first.some refl)
first_says size (page ∷ pages) is first database =
    let least : 2 ^ 9 ≤ 2 ^ is.0 = pow-le-pow_right (omega arith) is.1 in
    let long : 100 ≤ length page = omega (arith, first.sized.0, is.3, least) in
    let front : take 100 (page ++ concat pages) ≡ take 100 page = take-append-le 100 page (concat pages) long in
    subst (λ (b : List ℕ). page_size_of (page_size_field b) ≡ size) (sym front)
    (first.says page refl (subst IsWalDatabase front database))

pub joined_more : (pages : List (List ℕ)) (at : ℕ) (page bytes now : List ℕ) → slice_get pages at ≡ Some page
    → now ≡ bytes ++ page → bytes ++ concat (drop at pages) ≡ concat pages
    → now ++ concat (drop (at + 1) pages) ≡ concat pages
joined_more pages at page bytes now found grown so_far =
    ap (λ (b : List ℕ). b ++ concat (drop (at + 1) pages)) grown
    ∙ append_assoc bytes page (concat (drop (at + 1) pages))
    ∙ ap (λ (ps : List (List ℕ)). bytes ++ concat ps) (sym (drop_next pages at page found)) ∙ so_far
