-- One entry more, and whether it is a twin.
use Rattle.std.proofs.Common.{◌≡◌, ℕ, zero, suc, ◌≤◌, [], ◌∷◌, ◌++◌, length, Some}
use Rattle.std.proofs.Common.{sym, ap, ◌∙◌, inl, inr, arith}
use Rattle.std.specs.Prelude.{◌⊎◌}
use Rattle.std.specs.List.{slice_get}
use Rattle.std.proofs.lemmas.Bool.{cases_lt}
use Rattle.std.proofs.lemmas.Option.{slice_get_within}
use Rattle.ls_base.specs.declared.entry.Entry.{Entry}
use Rattle.ls_base.specs.Fault.{Rose}
use Rattle.ls_base.specs.History.{History, state_of}
use Rattle.live_gate.specs.Coincidence.{AddsNoTwins}
use Rattle.sim_writer.specs.Commits.{counted}
use Rattle.sim_writer.specs.Twins.{HasTwin, HasNoTwin}
use Rattle.sim_writer.proofs.ListLemmas.{get-front, get-end}

at_end : (h : History) (e b : Entry) (k : ℕ) → length h ≤ k → slice_get (h ++ e ∷ []) k ≡ Some b → e ≡ b
at_end [] e b zero past found = cc
at_end [] e b (suc k) past found = absurd (omega (arith, slice_get_within (e ∷ []) (suc k) b found))
at_end (x ∷ h) e b zero past found = absurd (omega (arith, past))
at_end (x ∷ h) e b (suc k) past found = at_end h e b k (omega (arith, past)) found

module _ (h : History) (e : Entry) where
  pub none_came : HasNoTwin h e → AddsNoTwins h (h ++ e ∷ [])
  none_came none j k a b past at_j at_k same =
      let is_b : e ≡ b = at_end h e b k past at_k in
      elim (cases_lt j (length h)) [
        | inl early ↦
            none.each j a (sym (get-front h (e ∷ []) j early) ∙ at_j) (same ∙ ap (λ (x : Entry). x.place) (sym is_b))
            ∙ ap state_of is_b
        | inr late ↦ ap state_of (sym (at_end h e a j late at_j) ∙ is_b)
      ]

  pub one_came : HasTwin h e → AddsNoTwins h (h ++ e ∷ []) → ⊥
  one_came twin none =
      let within = slice_get_within h twin.at twin.other twin.found in
      twin.differs (none twin.at (length h) twin.other e (omega arith)
      (get-front h (e ∷ []) twin.at within ∙ twin.found) (get-end h e) twin.place)

  -- the count rises exactly where one came
  pub counted_rose : (old now : ℕ) → (HasNoTwin h e × (now ≡ old)) ⊎ (HasTwin h e × (now ≡ counted old))
      → Rose old now ⊎ AddsNoTwins h (h ++ e ∷ [])
  counted_rose old now (inl (none, same)) = inr (none_came none)
  counted_rose old now (inr (some, rose)) = inl (record { least = omega (arith, rose) })

  pub counted_calm : (old now : ℕ) → (HasNoTwin h e × (now ≡ old)) ⊎ (HasTwin h e × (now ≡ counted old))
      → AddsNoTwins h (h ++ e ∷ []) → now ≡ old
  counted_calm old now (inl (none, same)) calm = same
  counted_calm old now (inr (some, rose)) calm = absurd (one_came some calm)
