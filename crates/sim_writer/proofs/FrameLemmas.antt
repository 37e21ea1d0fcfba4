-- One frame of a commit more.
use Rattle.std.proofs.Common.{◌≡◌, ℕ, ◌+◌, List, [], ◌∷◌, ◌++◌, drop, Some, sym, ap, subst, ◌∙◌, append_assoc}
use Rattle.std.specs.Prelude.{unwrap_or}
use Rattle.std.specs.List.{concat, slice_get}
use Rattle.std.specs.FinMap.{get, keys}
use Rattle.ls_sums.specs.declared.wal_sum.WalSum.{WalSum}
use Rattle.wal_frames.specs.declared.header.WalHeader.{WalHeader}
use Rattle.wal_frames.specs.declared.frame.Frame.TheVariants.{Valid}
use Rattle.wal_frames.specs.WalFrame.{frame_front, frame_bytes, sums_after, checked}
use Rattle.sim_writer.specs.CommitFrames.{PagesByNumber, AreChecked, page_in, size_before, frame_sums}
use Rattle.sim_writer.specs.CommitFrames.{commit_frames, commit_sums}
use Rattle.sim_writer.proofs.NumberLemmas.{drop_next}

-- the frame of the page at this place was written
pub record FrameStep (h : WalHeader) (sums now : WalSum) (m : PagesByNumber) (size at : ℕ) (frame : List ℕ) : Type 0
  where
    pub bytes : (into grown : List ℕ) → grown ≡ into ++ frame
        → grown ++ concat (commit_frames h now m size (drop (at + 1) (keys m)))
        ≡ into ++ concat (commit_frames h sums m size (drop at (keys m)))
    pub after : commit_sums h now m size (drop (at + 1) (keys m)) ≡ commit_sums h sums m size (drop at (keys m))
    pub checked : AreChecked h now m size (drop (at + 1) (keys m)) → AreChecked h sums m size (drop at (keys m))

module _ (h : WalHeader) (sums now : WalSum) (m : PagesByNumber) (size at n commit : ℕ) (page frame : List ℕ)
    (found : slice_get (keys m) at ≡ Some n) (has : get m n ≡ Some page)
    (commit_is : commit ≡ size_before size (drop (at + 1) (keys m)))
    (now_is : now ≡ sums_after h.order sums (frame_front n commit ++ page))
    (frame_is : frame ≡ frame_bytes h now n commit page)
    (valid : checked h sums frame ≡ Valid n commit now) where
  abbrev rest : List ℕ
  rest = drop (at + 1) (keys m)

  abbrev size_here : ℕ
  size_here = size_before size rest

  abbrev sums_here : WalSum
  sums_here = frame_sums h sums m n size_here

  abbrev frame_here : List ℕ
  frame_here = frame_bytes h sums_here n size_here (page_in m n)

  page_is : page ≡ page_in m n
  page_is = sym (ap (λ o. unwrap_or o []) has)

  sums_are : now ≡ sums_here
  sums_are =
      now_is ∙ ap (λ (k : ℕ). sums_after h.order sums (frame_front n k ++ page)) commit_is
      ∙ ap (λ (p : List ℕ). sums_after h.order sums (frame_front n size_here ++ p)) page_is

  frame_same : frame ≡ frame_here
  frame_same =
      frame_is ∙ ap (λ (s : WalSum). frame_bytes h s n commit page) sums_are
      ∙ ap (λ (k : ℕ). frame_bytes h sums_here n k page) commit_is
      ∙ ap (λ (p : List ℕ). frame_bytes h sums_here n size_here p) page_is

  next : drop at (keys m) ≡ n ∷ rest
  next = drop_next (keys m) at n found

  bytes_step : (into grown : List ℕ) → grown ≡ into ++ frame
      → grown ++ concat (commit_frames h now m size rest) ≡ into ++ concat (commit_frames h sums m size (drop at
      (keys m)))
  bytes_step into grown grown_is =
      ap (λ (b : List ℕ). b ++ concat (commit_frames h now m size rest)) (grown_is ∙ ap (λ (f : List ℕ). into ++ f)
      frame_same)
      ∙ ap (λ (s : WalSum). (into ++ frame_here) ++ concat (commit_frames h s m size rest)) sums_are
      ∙ append_assoc into frame_here (concat (commit_frames h sums_here m size rest))
      ∙ ap (λ (ns : List ℕ). into ++ concat (commit_frames h sums m size ns)) (sym next)

  sums_step : commit_sums h now m size rest ≡ commit_sums h sums m size (drop at (keys m))
  sums_step = ap (λ (s : WalSum). commit_sums h s m size rest) sums_are
      ∙ ap (λ (ns : List ℕ). commit_sums h sums m size ns) (sym next)

  valid_here : checked h sums frame_here ≡ Valid n size_here sums_here
  valid_here =
      ap (λ (f : List ℕ). checked h sums f) (sym frame_same) ∙ valid
      ∙ ap (λ (k : ℕ). Valid n k now) commit_is ∙ ap (λ (s : WalSum). Valid n size_here s) sums_are

  checked_step : AreChecked h now m size rest → AreChecked h sums m size (drop at (keys m))
  checked_step behind =
      subst (λ (ns : List ℕ). AreChecked h sums m size ns) (sym next)
      (valid_here, subst (λ (s : WalSum). AreChecked h s m size rest) sums_are behind)

  pub frame_step : FrameStep h sums now m size at frame
  frame_step = record { bytes = bytes_step; after = sums_step; checked = checked_step }
