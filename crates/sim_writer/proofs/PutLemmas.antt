-- A commit that is taken in.
use Rattle.std.proofs.Common.{◌≡◌, ℕ, ◌+◌, ◌≤◌, Bool, true, false, cond, List, length, drop, refl, sym, ap}
use Rattle.std.proofs.Common.{◌∙◌, inl, inr, arith}
use Rattle.std.specs.Prelude.{◌⊎◌, min}
use Rattle.std.proofs.lemmas.Bool.{cases_lt}
use Rattle.std.proofs.lemmas.List.{drop_all, drop-drop}
use Rattle.ls_base.specs.declared.entry.Entry.{Entry}
use Rattle.ls_base.specs.History.{History}
use Rattle.sim_writer.specs.Commits.{counted}
use Rattle.sim_writer.specs.Twins.{HasTwin, HasNoTwin}

pub twins_by : (h : History) (e : Entry) (b : Bool) (old now : ℕ) → (b ≡ true → HasTwin h e)
    → (b ≡ false → HasNoTwin h e) → now ≡ cond b (counted old) old
    → (HasNoTwin h e × (now ≡ old)) ⊎ (HasTwin h e × (now ≡ counted old))
twins_by h e true old now some none is = inr (some refl, is)
twins_by h e false old now some none is = inl (none refl, is)

-- the bytes behind those that were written over
pub tail_over : (tail : List ℕ) (over n most len now : ℕ) → len ≡ length tail → len ≤ most
    → now ≡ min (min (over + n) most) len → drop now tail ≡ drop n (drop over tail)
tail_over tail over n most len now long fits is = elim (cases_lt (over + n) len) [
  | inl within ↦
      let e : now ≡ over + n = omega (arith, is, within, fits) in
      ap (λ (k : ℕ). drop k tail) e ∙ sym (drop-drop n over tail)
  | inr past ↦
      let e : now ≡ len = omega (arith, is, past, fits) in
      drop_all now tail (omega (arith, e, long))
      ∙ sym (drop-drop n over tail ∙ drop_all (over + n) tail (omega (arith, past, long)))
]
