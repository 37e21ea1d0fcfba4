-- The valid prefix of a list of frames, and one frame more.
use Rattle.std.proofs.Common.{◌≡◌, ◌∙◌, ℕ, ◌%◌, List, [], ◌∷◌, ◌++◌, length, take, drop, Option, Some, None, sym, ap}
use Rattle.std.proofs.Common.{refl, arith, append_assoc, append-nil, length-append, length-drop}
use Rattle.std.specs.Option.{option_or}
use Rattle.std.specs.List.{flat_map}
use Rattle.std.proofs.lemmas.Grind.{flat_map-append}
use Rattle.std.proofs.lemmas.List.{length-take-le}
use Rattle.ls_sums.specs.declared.wal_sum.WalSum.{WalSum}
use Rattle.ls_sums.specs.WalSum.{words, after_words}
use Rattle.ls_sums.proofs.PairLemmas.{after_words-append}
use Rattle.wal_frames.specs.declared.header.WalHeader.{WalHeader}
use Rattle.wal_frames.specs.declared.fault.NotValid.{NotValid}
use Rattle.wal_frames.specs.WalFormat.{sums_of}
use Rattle.wal_frames.specs.WalFrame.{frame_length, summed_part, sums_after}
use Rattle.wal_frames.specs.ValidPrefix.{prefix_sums, fault_behind, if_valid, valid_behind, stop_behind}
use Rattle.wal_frames.proofs.ChunkLemmas.{AreLong}

-- ---- the sums of a prefix, and of one frame more

part_in_eights : (h : WalHeader) (frame : List ℕ) → h.size % 8 ≡ 0 → length frame ≡ frame_length h
    → length (summed_part frame) % 8 ≡ 0
part_in_eights h frame eights long =
    omega (
      arith,
      length-append (take 8 frame) (drop 24 frame),
      length-take-le 8 frame (omega (arith, long)),
      length-drop 24 frame,
      long,
      eights,
    )

parts_in_eights : (h : WalHeader) (frames : List (List ℕ)) → h.size % 8 ≡ 0 → AreLong (frame_length h) frames
    → length (flat_map summed_part frames) % 8 ≡ 0
parts_in_eights h [] eights long = refl
parts_in_eights h (frame ∷ frames) eights long =
    omega (
      arith,
      length-append (summed_part frame) (flat_map summed_part frames),
      part_in_eights h frame eights
          long.0,
      parts_in_eights h frames eights long.1,
    )

-- the running sums are those of the whole prefix
pub prefix_sums-more : (front : List ℕ) (h : WalHeader) (frames : List (List ℕ)) (frame : List ℕ) → length front ≡ 24
    → h.size % 8 ≡ 0 → AreLong (frame_length h) frames
    → sums_after h.order (prefix_sums front h frames) (summed_part frame) ≡ prefix_sums front h (frames ++ frame ∷ [])
unfolding prefix_sums sums_after sums_of
prefix_sums-more front h frames frame len eights long =
    let start : WalSum = record { s0 = 0; s1 = 0 } in
    let before = front ++ flat_map summed_part frames in
    let whole : length before % 8 ≡ 0 = omega
    (arith, length-append front (flat_map summed_part frames), len, parts_in_eights h frames eights long) in
    let one : flat_map summed_part (frames ++ frame ∷ []) ≡ flat_map summed_part frames ++ summed_part frame =
    flat_map-append summed_part frames (frame ∷ []) ∙ ap (λ (xs : List ℕ). flat_map summed_part frames ++ xs)
    (append-nil (summed_part frame)) in
    after_words-append h.order start before (summed_part frame) whole
    ∙ ap (λ (xs : List ℕ). after_words start (words h.order xs))
    (append_assoc front (flat_map summed_part frames) (summed_part frame) ∙ ap (λ (xs : List ℕ). front ++ xs) (sym one))

-- ---- one frame, whose fault is a variable

module _ {stop other : Option NotValid} where
  no_stop : (fault : Option NotValid) → option_or fault stop ≡ None → (stop ≡ None → other ≡ None)
      → option_or fault other ≡ None
  no_stop None e next = next e
  no_stop (Some x) e next = absurd cc

  same_stop : (e : NotValid) (fault : Option NotValid) → option_or fault stop ≡ Some e
      → (stop ≡ Some e → other ≡ Some e) → option_or fault other ≡ Some e
  same_stop e None is next = next is
  same_stop e (Some x) is next = is

later_stop : (stop other later : Option NotValid) (fault : Option NotValid) → option_or fault stop ≡ None
    → (stop ≡ None → other ≡ later) → option_or fault other ≡ later
later_stop stop other later None e next = next e
later_stop stop other later (Some x) e next = absurd cc

no_fault : (stop fault : Option NotValid) → option_or fault stop ≡ None → fault ≡ None
no_fault stop None e = refl
no_fault stop (Some x) e = absurd cc

rest_none : (stop fault : Option NotValid) → option_or fault stop ≡ None → stop ≡ None
rest_none stop None e = e
rest_none stop (Some x) e = absurd cc

goes_on : (stop : Option NotValid) (frame : List ℕ) (left right : List (List ℕ)) (fault : Option NotValid)
    → option_or fault stop ≡ None → (stop ≡ None → left ≡ right) → if_valid fault frame left ≡ frame ∷ right
goes_on stop frame left right None e next = ap (λ (frames : List (List ℕ)). frame ∷ frames) (next e)
goes_on stop frame left right (Some x) e next = absurd cc

same_frames : (stop : Option NotValid) (e : NotValid) (frame : List ℕ) (left right : List (List ℕ))
    (fault : Option NotValid) → option_or fault stop ≡ Some e → (stop ≡ Some e → left ≡ right)
    → if_valid fault frame left ≡ if_valid fault frame right
same_frames stop e frame left right None is next = ap (λ (frames : List (List ℕ)). frame ∷ frames) (next is)
same_frames stop e frame left right (Some x) is next = refl

front_of : (frame : List ℕ) (frames valid : List (List ℕ)) (fault : Option NotValid) → (others : List (List ℕ))
    × (frames ≡ valid ++ others) → (others : List (List ℕ)) × (frame ∷ frames ≡ if_valid fault frame valid ++ others)
front_of frame frames valid None more = (more.0, ap (λ (rest : List (List ℕ)). frame ∷ rest) more.1)
front_of frame frames valid (Some x) more = (frame ∷ frames, refl)

-- ---- the prefix

module _ (front : List ℕ) (h : WalHeader) where
  grouped : (before : List (List ℕ)) (frame : List ℕ) (frames : List (List ℕ))
      → (before ++ frame ∷ []) ++ frames ≡ before ++ frame ∷ frames
  grouped before frame frames = append_assoc before (frame ∷ []) frames

  -- where no frame stops, all are valid
  pub valid-all : (before frames : List (List ℕ)) → stop_behind front h before frames ≡ None
      → valid_behind front h before frames ≡ frames
  valid-all before [] none = refl
  valid-all before (frame ∷ frames) none =
      goes_on (stop_behind front h (before ++ frame ∷ []) frames) frame
      (valid_behind front h (before ++ frame ∷ []) frames) frames (fault_behind front h before frame) none
      (λ e. valid-all (before ++ frame ∷ []) frames e)

  pub valid-more : (before frames others : List (List ℕ)) → stop_behind front h before frames ≡ None
      → valid_behind front h before (frames ++ others) ≡ frames ++ valid_behind front h (before ++ frames) others
  valid-more before [] others none = rw (append-nil before) refl
  valid-more before (frame ∷ frames) others none =
      goes_on (stop_behind front h (before ++ frame ∷ []) frames) frame
      (valid_behind front h (before ++ frame ∷ []) (frames ++ others))
      (frames ++ valid_behind front h (before ++ frame ∷ frames) others) (fault_behind front h before frame) none
      (λ e. valid-more (before ++ frame ∷ []) frames others e
      ∙ ap (λ (passed : List (List ℕ)). frames ++ valid_behind front h passed others) (grouped before frame frames))

  pub stop-more : (before frames others : List (List ℕ)) → stop_behind front h before frames ≡ None
      → stop_behind front h before (frames ++ others) ≡ stop_behind front h (before ++ frames) others
  stop-more before [] others none = rw (append-nil before) refl
  stop-more before (frame ∷ frames) others none =
      later_stop (stop_behind front h (before ++ frame ∷ []) frames)
      (stop_behind front h (before ++ frame ∷ []) (frames ++ others))
      (stop_behind front h (before ++ frame ∷ frames) others) (fault_behind front h before frame) none
      (λ e. stop-more (before ++ frame ∷ []) frames others e
      ∙ ap (λ (passed : List (List ℕ)). stop_behind front h passed others) (grouped before frame frames))

  -- what comes behind a frame that isn't valid changes nothing
  pub valid-stopped : (e : NotValid) (before frames others : List (List ℕ))
      → stop_behind front h before frames ≡ Some e → valid_behind front h before (frames ++ others) ≡ valid_behind
      front h before frames
  valid-stopped e before [] others stopped = absurd cc
  valid-stopped e before (frame ∷ frames) others stopped =
      same_frames (stop_behind front h (before ++ frame ∷ []) frames) e frame
      (valid_behind front h (before ++ frame ∷ []) (frames ++ others))
      (valid_behind front h (before ++ frame ∷ []) frames) (fault_behind front h before frame) stopped
      (λ is. valid-stopped e (before ++ frame ∷ []) frames others is)

  pub stop-stopped : (e : NotValid) (before frames others : List (List ℕ))
      → stop_behind front h before frames ≡ Some e → stop_behind front h before (frames ++ others) ≡ Some e
  stop-stopped e before [] others stopped = absurd cc
  stop-stopped e before (frame ∷ frames) others stopped =
      same_stop {stop = stop_behind front h (before ++ frame ∷ []) frames}
      {other = stop_behind front h (before ++ frame ∷ []) (frames ++ others)}
      e (fault_behind front h before frame) stopped (λ is. stop-stopped e (before ++ frame ∷ []) frames others is)

  -- the valid frames stand first, and none of them stops
  pub valid-front : (before frames : List (List ℕ)) → (others : List (List ℕ))
      × (frames ≡ valid_behind front h before frames ++ others)
  valid-front before [] = ([], refl)
  valid-front before (frame ∷ frames) =
      front_of frame frames (valid_behind front h (before ++ frame ∷ []) frames) (fault_behind front h before frame)
      (valid-front (before ++ frame ∷ []) frames)

  none_of : (before : List (List ℕ)) (frame : List ℕ) (valid : List (List ℕ)) (fault : Option NotValid)
      → fault ≡ fault_behind front h before frame → stop_behind front h (before ++ frame ∷ []) valid ≡ None
      → stop_behind front h before (if_valid fault frame valid) ≡ None
  none_of before frame valid None is none = rw (← is) none
  none_of before frame valid (Some x) is none = refl

  pub stop-valid : (before frames : List (List ℕ)) → stop_behind front h before (valid_behind front h before frames)
      ≡ None
  stop-valid before [] = refl
  stop-valid before (frame ∷ frames) =
      none_of before frame (valid_behind front h (before ++ frame ∷ []) frames) (fault_behind front h before frame)
      refl (stop-valid (before ++ frame ∷ []) frames)

  -- neither does one of the first of them
  pub stop-front : (before frames others : List (List ℕ)) → stop_behind front h before (frames ++ others) ≡ None
      → stop_behind front h before frames ≡ None
  stop-front before [] others none = refl
  stop-front before (frame ∷ frames) others none =
      no_stop {stop = stop_behind front h (before ++ frame ∷ []) (frames ++ others)}
      {other = stop_behind front h (before ++ frame ∷ []) frames}
      (fault_behind front h before frame) none (λ e. stop-front (before ++ frame ∷ []) frames others e)

  pub fault-none : (before : List (List ℕ)) (frame : List ℕ) (frames : List (List ℕ))
      → stop_behind front h before (frame ∷ frames) ≡ None → fault_behind front h before frame ≡ None
  fault-none before frame frames none = no_fault (stop_behind front h (before ++ frame ∷ []) frames)
      (fault_behind front h before frame) none

  pub stop-rest : (before : List (List ℕ)) (frame : List ℕ) (frames : List (List ℕ))
      → stop_behind front h before (frame ∷ frames) ≡ None → stop_behind front h (before ++ frame ∷ []) frames ≡ None
  stop-rest before frame frames none = rest_none (stop_behind front h (before ++ frame ∷ []) frames)
      (fault_behind front h before frame) none
