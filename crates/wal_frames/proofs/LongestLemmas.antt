-- The valid prefix is the longest list of valid frames.
use Rattle.std.proofs.Common.{◌≡◌, ◌∙◌, ℕ, List, [], ◌∷◌, ◌++◌, length, None, ap, refl, arith, length-append}
use Rattle.wal_frames.specs.declared.header.WalHeader.{WalHeader}
use Rattle.wal_frames.specs.ValidPrefix.{valid_behind, stop_behind}
use Rattle.wal_frames.specs.PrefixLaws.{AreValid, IsLongest}
use Rattle.wal_frames.proofs.PrefixLemmas.{valid-more, valid-front, stop-valid, fault-none, stop-rest}

module _ (front : List ℕ) (h : WalHeader) where
  -- frames are valid where none stops
  valid_from_none : (before frames : List (List ℕ)) → stop_behind front h before frames ≡ None
      → AreValid front h before frames
  valid_from_none before [] none = tt
  valid_from_none before (frame ∷ frames) none = (
    fault-none front h before frame frames none,
    valid_from_none (before ++ frame ∷ []) frames
        (stop-rest front h before frame frames none),
  )

  none_from_valid : (before frames : List (List ℕ)) → AreValid front h before frames
      → stop_behind front h before frames ≡ None
  none_from_valid before [] valid = refl
  none_from_valid before (frame ∷ frames) valid = rw valid.0 (none_from_valid (before ++ frame ∷ []) frames valid.1)

  pub is_longest : (all : List (List ℕ)) → IsLongest front h all (valid_behind front h [] all)
  is_longest all =
      let first = valid-front front h [] all in
      record {
        rest = first.0;
        stand_first = first.1;
        are_valid = valid_from_none [] (valid_behind front h [] all) (stop-valid front h [] all);
        longest = λ others rest e valid.
            let more : valid_behind front h [] all ≡ others ++ valid_behind front h others rest =
            ap (valid_behind front h []) e ∙ valid-more front h [] others rest (none_from_valid [] others valid) in
            omega (
              arith,
              ap (λ (xs : List (List ℕ)). length xs) more,
              length-append others
                  (valid_behind front h others rest),
            );
      }
