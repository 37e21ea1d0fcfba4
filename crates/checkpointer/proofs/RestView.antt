-- A database file that has all pages of a view.
use Rattle.std.proofs.Common.{◌≡◌, ◌≢◌, ◌∙◌, ℕ, ◌+◌, ◌-◌, ◌*◌, ◌/◌, ◌≤◌, max, Bool, true, false, cond, eqb, List}
use Rattle.std.proofs.Common.{length, map, replicate, Option, Some, None, Ok, unwrap_or, sym, ap, refl, arith}
use Rattle.std.specs.List.{range_with_len}
use Rattle.std.proofs.Math.Nat.{one-le-pow}
use Rattle.std.proofs.lemmas.Bool.{eqb-false, ne_eqb}
use Rattle.ls_base.specs.PageSize.{lock_page}
use Rattle.ls_base.specs.declared.mark.Mark.{Mark}
use Rattle.wal_frames.specs.declared.header.WalHeader.{WalHeader}
use Rattle.wal_frames.specs.WalFormat.{read_header}
use Rattle.wal_frames.specs.ValidPrefix.{frames_under}
use Rattle.wal_frames.specs.Marks.{IsMark}
use Rattle.wal_frames.specs.View.{frames_to, frames_page, file_page, unless_locked, page_at_mark, page_at_rest}
use Rattle.wal_frames.specs.View.{file_pages, view_at, view_at_rest}
use Rattle.wal_frames.proofs.AcceptedLemmas.{accepts}
use Rattle.wal_frames.proofs.CutLemmas.{quotient}
use Rattle.wal_frames.proofs.MarkLemmas.{mark_stands}
use Rattle.wal_frames.proofs.ViewLemmas.{view_is}
use Rattle.checkpointer.specs.Copying.{IsCopiedNumber}
use Rattle.checkpointer.proofs.ViewOfPair.{same_pages}

pub unlocked : (size p : ℕ) (page : List ℕ) → p ≢ lock_page size → unless_locked size p page ≡ page
unlocked size p page other = ap (λ (locked : Bool). cond locked (replicate size 0) page)
    (ne_eqb p (lock_page size) other)

same_unless : (size : ℕ) (locked : Bool) (a b : List ℕ) → (locked ≡ false → a ≡ b)
    → cond locked (replicate size 0) a ≡ cond locked (replicate size 0) b
same_unless size true a b same = refl
same_unless size false a b same = same refl

own_or : (page : Option (List ℕ)) (own other : List ℕ) → own ≡ unwrap_or page other → own ≡ unwrap_or page own
own_or None own other is = refl
own_or (Some page) own other is = is

module _ (log : List ℕ) (h : WalHeader) (accepted : read_header log ≡ Ok h) (mark : Mark) (is_mark : IsMark log mark)
  where
    pub some_size : 1 ≤ h.size
    some_size = let is_size = (accepts log h accepted).size in rw is_size.3 (one-le-pow is_size.0 2 (omega arith))

    pub some_page : 1 ≤ mark.commit
    some_page = let stands = mark_stands log h mark accepted is_mark in omega
        (arith, stands.commits, ap (λ (m : Mark). m.commit) stands.is)

    module _ (file before : List ℕ) (long : length file ≡ mark.commit * h.size) where
      many : file_pages h.size file ≡ mark.commit
      many =
          let times : (length file + (h.size - 1)) / h.size ≡ mark.commit = quotient (length file + (h.size - 1)) h.size
          mark.commit (h.size - 1) (omega (arith, long)) (omega (arith, some_size)) in
          ap (λ (n : ℕ). max 1 n) times ∙ omega (arith, some_page)

      pub rest_view : ((p : ℕ) → IsCopiedNumber h.size mark.commit p
          → file_page h.size file p ≡ unwrap_or (frames_page p (frames_to h (frames_under h log) mark))
          (file_page h.size before p))
          → view_at_rest h.size file ≡ view_at file log mark
      rest_view each =
          let pages : map (page_at_rest h.size file) (range_with_len 1 mark.commit) ≡ map
          (page_at_mark h file (frames_under h log) mark) (range_with_len 1 mark.commit) =
          same_pages (page_at_rest h.size file) (page_at_mark h file (frames_under h log) mark) 1 mark.commit
          (λ p low high. same_unless h.size (eqb p (lock_page h.size)) (file_page h.size file p)
          (unwrap_or (frames_page p (frames_to h (frames_under h log) mark)) (file_page h.size file p))
          (λ not_locked. own_or (frames_page p (frames_to h (frames_under h log) mark)) (file_page h.size file p)
          (file_page h.size before p)
          (each p (record {
            from = low;
            upto = omega (arith, high);
            unlocked = eqb-false p (lock_page h.size) not_locked;
          }))))
          in
          (λ i. record { page_size = Some h.size; pages = map (page_at_rest h.size file) (range_with_len 1 (many i)) })
          ∙ (λ i. record { page_size = Some h.size; pages = pages i }) ∙ sym (view_is log h accepted file mark)
