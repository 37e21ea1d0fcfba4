-- The state of a pair by the places of the database file that it reads.
use Rattle.std.proofs.Common.{◌≡◌, ◌≢◌, ◌∙◌, ℕ, zero, suc, ◌+◌, ◌-◌, ◌*◌, ◌<◌, ◌≤◌, Bool, true, false, cond, eqb}
use Rattle.std.proofs.Common.{List, ◌∷◌, ◌++◌, drop, map, replicate, Option, Some, None, unwrap_or, Ok, get_or, sym}
use Rattle.std.proofs.Common.{ap, subst, refl, inl, inr, arith}
use Rattle.std.specs.List.{range_with_len}
use Rattle.std.proofs.Math.Nat.{add-mul}
use Rattle.std.proofs.lemmas.Bool.{eqb-false}
use Rattle.std.proofs.lemmas.List.{ext_get_or, get_or-take, get_or-drop}
use Rattle.ls_base.specs.PageSize.{lock_page}
use Rattle.ls_base.specs.declared.mark.Mark.{Mark}
use Rattle.crash_disk.specs.declared.event.Event.{Event}
use Rattle.wal_frames.specs.declared.header.WalHeader.{WalHeader}
use Rattle.wal_frames.specs.WalFormat.{read_header}
use Rattle.wal_frames.specs.ValidPrefix.{frames_under}
use Rattle.wal_frames.specs.Marks.{last_mark_of}
use Rattle.wal_frames.specs.View.{frames_to, frames_page, file_page, page_at_mark, view_at}
use Rattle.wal_frames.proofs.LogLemmas.{accepted_by_mark, last_is_mark}
use Rattle.wal_frames.proofs.ViewLemmas.{length-file_page, view_is}
use Rattle.checkpointer.specs.PairState.{log_page_size, view_by, state_of_pair, bytes_in, StatesWere, IsFromFile}
use Rattle.checkpointer.proofs.FileLemmas.{AgreeAt, get-padded}
use Rattle.checkpointer.proofs.RunLemmas.{WereAlike}

-- a place of a page that the mark leaves to the database file
pub record IsKept (log : List ℕ) (mark : Mark) (place : ℕ) : Type 0 where
  pub p : ℕ
  pub page : IsFromFile log mark p
  pub from : (p - 1) * log_page_size log ≤ place
  pub before : place < p * log_page_size log

-- ---- pages by their bytes

pub get-file_page : (size : ℕ) (file : List ℕ) (p k : ℕ) → k < size
    → get_or (file_page size file p) k 0 ≡ get_or file ((p - 1) * size + k) 0
get-file_page size file p k below =
    get_or-take size (drop ((p - 1) * size) file ++ replicate size 0) k 0 below
    ∙ get-padded (drop ((p - 1) * size) file) size k ∙ get_or-drop ((p - 1) * size) file k 0

pub same_file_page : (size : ℕ) (a b : List ℕ) (p : ℕ)
    → ((k : ℕ) → k < size → get_or a ((p - 1) * size + k) 0 ≡ get_or b ((p - 1) * size + k) 0)
    → file_page size a p ≡ file_page size b p
same_file_page size a b p same =
    let left = length-file_page size a p in
    let right = length-file_page size b p in
    ext_get_or 0 (file_page size a p) (file_page size b p) (left ∙ sym right)
    (λ k below. let within : k < size = omega (arith, below, left) in get-file_page size a p k within ∙ same k within
    ∙ sym (get-file_page size b p k within))

pub same_pages : (f g : ℕ → List ℕ) (a n : ℕ) → ((p : ℕ) → a ≤ p → p < a + n → f p ≡ g p)
    → map f (range_with_len a n) ≡ map g (range_with_len a n)
same_pages f g a zero same = refl
same_pages f g a (suc n) same =
    let first : f a ≡ g a = same a (omega arith) (omega arith) in
    let rest : map f (range_with_len (a + 1) n) ≡ map g (range_with_len (a + 1) n) = same_pages f g (a + 1) n
    (λ p low high. same p (omega (arith, low)) (omega (arith, high))) in
    λ i. first i ∷ rest i

module _ (log : List ℕ) (mark : Mark) (h : WalHeader) (accepted : read_header log ≡ Ok h) (a b : List ℕ)
    (agree : AgreeAt (IsKept log mark) a b) where
  size_is : log_page_size log ≡ h.size
  size_is = rw accepted refl

  abbrev frames : List (List ℕ)
  frames = frames_under h log

  from_file : (p : ℕ) → 1 ≤ p → p ≤ mark.commit → p ≢ lock_page h.size → frames_page p (frames_to h frames mark) ≡ None
      → IsFromFile log mark p
  from_file p from upto unlocked none = record {
    from = from;
    upto = upto;
    unlocked = λ same. unlocked (same ∙ ap lock_page size_is);
    unframed = rw accepted none;
  }

  page_agrees : (p : ℕ) → 1 ≤ p → IsFromFile log mark p → file_page h.size a p ≡ file_page h.size b p
  page_agrees p from page =
      let one : (p - 1 + 1) * h.size ≡ (p - 1) * h.size + 1 * h.size = add-mul (p - 1) 1 h.size in
      let whole : p * h.size ≡ (p - 1 + 1) * h.size = ap (λ (n : ℕ). n * h.size) (omega (arith, from)) in
      same_file_page h.size a b p (λ k below. agree ((p - 1) * h.size + k) (record {
        p = p;
        page = page;
        from = subst (λ (size : ℕ). (p - 1) * size ≤ (p - 1) * h.size + k) (sym size_is) (omega arith);
        before = subst (λ (size : ℕ). (p - 1) * h.size + k < p * size) (sym size_is) (omega (arith, one, whole, below));
      }))

  else_agrees : (p : ℕ) (page : Option (List ℕ)) → (page ≡ None → file_page h.size a p ≡ file_page h.size b p)
      → unwrap_or page (file_page h.size a p) ≡ unwrap_or page (file_page h.size b p)
  else_agrees p None same = same refl
  else_agrees p (Some page) same = refl

  locked_agrees : (p : ℕ) (locked : Bool) (x y : List ℕ) → (locked ≡ false → x ≡ y)
      → cond locked (replicate h.size 0) x ≡ cond locked (replicate h.size 0) y
  locked_agrees p true x y same = refl
  locked_agrees p false x y same = same refl

  pub pages_agree : (p : ℕ) → 1 ≤ p → p ≤ mark.commit → page_at_mark h a frames mark p ≡ page_at_mark h b frames mark p
  pages_agree p from upto =
      let page = frames_page p (frames_to h frames mark) in
      locked_agrees p (eqb p (lock_page h.size)) (unwrap_or page (file_page h.size a p))
      (unwrap_or page (file_page h.size b p))
      (λ unlocked. else_agrees p page
      (λ none. page_agrees p from (from_file p from upto (eqb-false p (lock_page h.size) unlocked) none)))

  pub views_agree : view_at a log mark ≡ view_at b log mark
  views_agree =
      let pages : map (page_at_mark h a frames mark) (range_with_len 1 mark.commit) ≡ map
      (page_at_mark h b frames mark) (range_with_len 1 mark.commit) =
      same_pages (page_at_mark h a frames mark) (page_at_mark h b frames mark) 1 mark.commit
      (λ p low high. pages_agree p low (omega (arith, high))) in
      view_is log h accepted a mark ∙ (λ i. record { page_size = Some h.size; pages = pages i })
      ∙ sym (view_is log h accepted b mark)

-- ---- the state of a pair

pub state_at_mark : (size : ℕ) (file log : List ℕ) (mark : Mark) → last_mark_of log ≡ Some mark
    → state_of_pair size file log ≡ view_at file log mark
unfolding state_of_pair
state_at_mark size file log mark e = ap (view_by size file log) e

pub states_agree : (size : ℕ) (log : List ℕ) (mark : Mark) (a b : List ℕ) → last_mark_of log ≡ Some mark
    → AgreeAt (IsKept log mark) a b → state_of_pair size a log ≡ state_of_pair size b log
states_agree size log mark a b e agree =
    let accepted = accepted_by_mark log mark (last_is_mark log mark e) in
    state_at_mark size a log mark e ∙ views_agree log mark accepted.0 accepted.1 a b agree
    ∙ sym (state_at_mark size b log mark e)

pub states_were : (size : ℕ) (db wal log : List ℕ) (mark : Mark) (before now : List Event)
    → last_mark_of log ≡ Some mark → WereAlike (IsKept log mark) db wal log before now
    → StatesWere size db wal before now
states_were size db wal log mark before now e alike image was =
    elim (alike image was) [
      | inl is ↦ (image, is, refl)
      | inr like ↦ (
        like.old,
        like.is,
        ap (state_of_pair size (bytes_in image db)) like.log_now
            ∙ sym (states_agree size log mark (bytes_in like.old db) (bytes_in image db) e like.agree)
            ∙ ap (state_of_pair size (bytes_in like.old db)) (sym like.log_old),
      )
    ]
