-- What the answer for a frame says.
use Rattle.std.proofs.Common.{◌≡◌, ℕ, ◌%◌, Bool, true, false, not, cond, List, [], ◌∷◌, ◌++◌, length, Option, Some}
use Rattle.std.proofs.Common.{None, sym, ap, refl}
use Rattle.ls_sums.specs.declared.wal_sum.WalSum.{WalSum}
use Rattle.wal_frames.specs.declared.header.WalHeader.{WalHeader}
use Rattle.wal_frames.specs.declared.fault.NotValid.{NotValid}
use Rattle.wal_frames.specs.declared.fault.NotValid.TheVariants.{Salt, Zero, Sum}
use Rattle.wal_frames.specs.declared.frame.Frame.TheVariants.{Valid, Not}
use Rattle.wal_frames.specs.WalFormat.{sums_at, are_same}
use Rattle.wal_frames.specs.WalFrame.{frame_length, page_number, commit_size, summed_part, sums_after, frame_fault}
use Rattle.wal_frames.specs.WalFrame.{frame_as}
use Rattle.wal_frames.specs.ValidPrefix.{prefix_sums, fault_behind}
use Rattle.wal_frames.proofs.AcceptedLemmas.{same_sums}
use Rattle.wal_frames.proofs.ChunkLemmas.{AreLong}
use Rattle.wal_frames.proofs.PrefixLemmas.{prefix_sums-more}

-- a valid frame and what it says
pub record SaysValid (fault : Option NotValid) (sums : WalSum) (frame : List ℕ) (number commit : ℕ) (after : WalSum) :
    Type 0 where
  pub no_fault : fault ≡ None
  pub is_number : number ≡ page_number frame
  pub is_commit : commit ≡ commit_size frame
  pub is_after : after ≡ sums

pub says_valid : (fault : Option NotValid) (sums : WalSum) (frame : List ℕ) (number commit : ℕ) (after : WalSum)
    → frame_as fault sums frame ≡ Valid number commit after → SaysValid fault sums frame number commit after
says_valid None sums frame number commit after e = record
    { no_fault = refl; is_number = cc; is_commit = cc; is_after = cc }
says_valid (Some x) sums frame number commit after e = absurd cc

pub says_not : (fault : Option NotValid) (sums : WalSum) (frame : List ℕ) (x : NotValid)
    → frame_as fault sums frame ≡ Not x → fault ≡ Some x
says_not None sums frame x e = absurd cc
says_not (Some y) sums frame x e = let same : y ≡ x = cc in ap (λ (z : NotValid). Some z) same

last_test : (salts zero same : Bool) → cond (not salts) (Some Salt)
    (cond zero (Some Zero) (cond (not same) (Some Sum) None)) ≡ None → same ≡ true
last_test true true same e = absurd cc
last_test true false true e = refl
last_test true false false e = absurd cc
last_test false zero same e = absurd cc

-- a frame with no fault has the sums stored
pub sums_stored : (h : WalHeader) (sums : WalSum) (frame : List ℕ) → frame_fault h sums frame ≡ None
    → sums ≡ sums_at frame 16
sums_stored h sums frame none = same_sums sums (sums_at frame 16)
    (last_test _ _ (are_same sums (sums_at frame 16)) none)

-- the fault by the whole prefix is that by the running sums
pub fault_running : (front : List ℕ) (h : WalHeader) (frames : List (List ℕ)) (frame : List ℕ) → length front ≡ 24
    → h.size % 8 ≡ 0 → AreLong (frame_length h) frames
    → fault_behind front h frames frame ≡ frame_fault h
    (sums_after h.order (prefix_sums front h frames) (summed_part frame)) frame
unfolding fault_behind
fault_running front h frames frame len eights long =
    ap (λ (sums : WalSum). frame_fault h sums frame) (sym (prefix_sums-more front h frames frame len eights long))

-- a frame with no fault behind others has their sums and its own stored
pub prefix_stored : (front : List ℕ) (h : WalHeader) (before : List (List ℕ)) (frame : List ℕ)
    → fault_behind front h before frame ≡ None → prefix_sums front h (before ++ frame ∷ []) ≡ sums_at frame 16
unfolding fault_behind
prefix_stored front h before frame none = sums_stored h (prefix_sums front h (before ++ frame ∷ [])) frame none
