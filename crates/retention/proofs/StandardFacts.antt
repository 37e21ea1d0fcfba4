-- Two small lists worked out by hand, so that a wrong definition doesn't check: the files 0/2-2, 0/3-3 and 9/1-1, and
-- the
-- same with 9/1-3 behind them. The cut is 13600000.
use Rattle.std.proofs.Common.{◌≡◌, ℕ, ◌+◌, ◌<◌, ◌≤◌, inl, zero, suc, true, false, List, [], ◌∷◌, Some, slice_get}
use Rattle.std.proofs.Common.{refl, ap, subst, arith}
use Rattle.std.specs.List.{Contains}
use Rattle.replica_store.specs.declared.dated_names.Dated.{Dated}
use Rattle.replica_store.specs.declared.file_name.FileName.{FileName}
use Rattle.replica_store.specs.Chain.{IsRetained, MayComeNext, names_of}
use Rattle.retention.specs.Protected.{IsProtected, KeepsProtected}
use Rattle.retention.specs.Walk.{standing, dropped, standing_without, IsWalk}

abbrev two : FileName
two = record {
  level = 0;
  min = 2;
  max = 2;
  on_level = refl;
  in_order = omega arith;
  from_first = λ h. absurd
      (omega (arith, h));
}

abbrev three : FileName
three = record {
  level = 0;
  min = 3;
  max = 3;
  on_level = refl;
  in_order = omega arith;
  from_first = λ h. absurd
      (omega (arith, h));
}

abbrev one : FileName
one = record { level = 9; min = 1; max = 1; on_level = refl; in_order = omega arith; from_first = λ _. refl }

abbrev whole : FileName
whole = record { level = 9; min = 1; max = 3; on_level = refl; in_order = omega arith; from_first = λ _. refl }

abbrev cut : ℕ
cut = 13600000

abbrev small : List Dated
small = (record { name = two; moment = 2000 }) ∷ (record { name = three; moment = 20000000 })
    ∷ (record { name = one; moment = 1000 }) ∷ []

abbrev larger : List Dated
larger = (record { name = two; moment = 2000 }) ∷ (record { name = three; moment = 20000000 })
    ∷ (record { name = one; moment = 1000 }) ∷ (record { name = whole; moment = 20000000 }) ∷ []

-- of the larger list the first and the third go
stand : standing (false ∷ true ∷ false ∷ true ∷ []) larger ≡ three ∷ whole ∷ []
stand = refl

go : dropped (false ∷ true ∷ false ∷ true ∷ []) larger ≡ two ∷ one ∷ []
go = refl

-- the names before the third were decided on, and it goes
next : standing_without (false ∷ true ∷ false ∷ true ∷ []) 2 larger ≡ three ∷ whole ∷ []
next = refl

-- the names that a list of two contains
of_two : (P : FileName → Type 0) (a b name : FileName) → Contains (a ∷ b ∷ []) name → P a → P b → P name
of_two P a b name (zero, low, e) here there = subst P e here
of_two P a b name (suc zero, low, e) here there = subst P e there
of_two P a b name (suc (suc k), low, e) here there = absurd (omega (arith, low))

abbrev Follows : ℕ → FileName → Type 0
Follows after name = name.min ≤ after + 1 × (after < name.max)

-- transaction 3 is young in both lists
young_three : IsProtected small cut 3
young_three = record {
  retained = record {
    positive = omega arith;
    chain = one ∷ two ∷ three ∷ [];
    leads = (
      (2, omega arith, refl),
      record { begins = omega arith; goes_on = omega arith },
      (
        (0, omega arith, refl),
        record { begins = omega arith; goes_on = omega arith },
        ((1, omega arith, refl), record { begins = omega arith; goes_on = omega arith }, refl),
      ),
    );
  };
  why = inl (omega arith);
}

-- without 0/2-2 nothing leads to it, nor without 9/1-1
not_without_two : IsRetained (three ∷ one ∷ []) 3 → ⊥
not_without_two is = from_nothing is.chain is.leads
  where
    from_one : (chain : List FileName) → Rattle.replica_store.specs.Chain.LeadsTo (three ∷ one ∷ []) 1 chain 3 → ⊥
    from_one [] leads = omega (arith, leads)
    from_one (name ∷ chain) leads = of_two (λ n. MayComeNext 1 n → ⊥) three one name leads.0
        (λ h. omega (arith, h.begins)) (λ h. omega (arith, h.goes_on)) leads.1

    from_nothing : (chain : List FileName) → Rattle.replica_store.specs.Chain.LeadsTo (three ∷ one ∷ []) 0 chain 3 → ⊥
    from_nothing [] leads = omega (arith, leads)
    from_nothing (name ∷ chain) leads = of_two
        (λ n. MayComeNext 0 n → Rattle.replica_store.specs.Chain.LeadsTo (three ∷ one ∷ []) n.max chain 3 → ⊥) three
        one name leads.0 (λ h rest. omega (arith, h.begins)) (λ h rest. from_one chain rest) leads.1 leads.2

not_without_one : IsRetained (two ∷ three ∷ []) 3 → ⊥
not_without_one is = from_nothing is.chain is.leads
  where
    from_nothing : (chain : List FileName) → Rattle.replica_store.specs.Chain.LeadsTo (two ∷ three ∷ []) 0 chain 3 → ⊥
    from_nothing [] leads = omega (arith, leads)
    from_nothing (name ∷ chain) leads = of_two (λ n. MayComeNext 0 n → ⊥) two three name leads.0
        (λ h. omega (arith, h.begins)) (λ h. omega (arith, h.begins)) leads.1

-- so none of the small list goes, though two of them are old
none_goes : IsWalk small cut (true ∷ true ∷ true ∷ [])
none_goes = record {
  count = refl;
  young = young_kept;
  old = old_kept;
}
  where
    young_kept : (i : ℕ) (d : Dated) → slice_get small i ≡ Some d → cut ≤ d.moment
        → slice_get (true ∷ true ∷ true ∷ []) i ≡ Some true
    young_kept zero d there late = refl
    young_kept (suc zero) d there late = refl
    young_kept (suc (suc zero)) d there late = refl
    young_kept (suc (suc (suc i))) d there late = absurd cc

    old_kept : (i : ℕ) (d : Dated) → slice_get small i ≡ Some d → d.moment < cut
        → (slice_get (true ∷ true ∷ true ∷ []) i ≡ Some false
        → KeepsProtected small cut (standing_without (true ∷ true ∷ true ∷ []) i small))
        × (KeepsProtected small cut (standing_without (true ∷ true ∷ true ∷ []) i small)
        → slice_get (true ∷ true ∷ true ∷ []) i ≡ Some false)
    old_kept zero d there early = (λ h. absurd cc, λ keeps. absurd (not_without_two (keeps 3 young_three)))
    old_kept (suc zero) d there early = let e : (record { name = three; moment = 20000000 }) ≡ d = (cc) in absurd
        (omega (arith, ap (λ (x : Dated). x.moment) e, early))
    old_kept (suc (suc zero)) d there early = (λ h. absurd cc, λ keeps. absurd (not_without_one (keeps 3 young_three)))
    old_kept (suc (suc (suc i))) d there early = absurd cc
