-- What a file must still hold, through one page more.
use Rattle.std.proofs.Common.{◌≡◌, ◌≢◌, ℕ, zero, suc, ◌+◌, ◌<◌, ◌≤◌, inl, inr, true, false, List, [], ◌∷◌, ◌++◌, Option}
use Rattle.std.proofs.Common.{Some, None, IfSome, refl, sym, ◌∙◌, subst, arith}
use Rattle.std.specs.Prelude.{◌⊎◌, is_some}
use Rattle.std.specs.List.{Contains}
use Rattle.std.proofs.lemmas.Bool.{cases_lt, cases_eq}
use Rattle.page_cursors.specs.Wanted.{AreBelow, IsFirstLacking, HasMissed, Wants}
use Rattle.page_cursors.specs.declared.wanted.Wanted.{Wanted}

-- ---- one number more

held_before : (numbers : List ℕ) (number p : ℕ) → Contains numbers p → Contains (numbers ++ number ∷ []) p
held_before [] number p (k, low, e) = absurd (omega (arith, low))
held_before (x ∷ numbers) number p (zero, low, e) = (zero, omega arith, e)
held_before (x ∷ numbers) number p (suc k, low, e) =
    let rest = held_before numbers number p (k, omega (arith, low), e) in (suc rest.0, omega (arith, rest.1), rest.2)

held_now : (numbers : List ℕ) (number : ℕ) → Contains (numbers ++ number ∷ []) number
held_now [] number = (zero, omega arith, refl)
held_now (x ∷ numbers) number = let rest = held_now numbers number in (suc rest.0, omega (arith, rest.1), rest.2)

pub held_which : (numbers : List ℕ) (number p : ℕ) → Contains (numbers ++ number ∷ []) p
    → Contains numbers p ⊎ (number ≡ p)
held_which [] number p (zero, low, e) = inr e
held_which [] number p (suc k, low, e) = absurd (omega (arith, low))
held_which (x ∷ numbers) number p (zero, low, e) = inl (zero, omega arith, e)
held_which (x ∷ numbers) number p (suc k, low, e) = elim (held_which numbers number p (k, omega (arith, low), e)) [
  | inl has ↦ inl (suc has.0, omega (arith, has.1), has.2)
  | inr same ↦ inr same
]

-- ---- what is wanted

still_lacking : (lock above : ℕ) (numbers : List ℕ) (number first : ℕ) → number ≢ first
    → IsFirstLacking lock above numbers first
    → IsFirstLacking lock above (numbers ++ number ∷ []) first
still_lacking lock above numbers number first other is = record {
  above_it = is.above_it;
  unlocked = is.unlocked;
  lacking = λ has. elim (held_which numbers number first has) [ inl before ↦ is.lacking before | inr now ↦ other now ];
  least = λ p low high unlocked. held_before numbers number p (is.least p low high unlocked);
}

not_both : (o : Option ℕ) (n : ℕ) → o ≡ None → o ≡ Some n → ⊥
not_both o n none some = cc

not_missed : (o : Option ℕ) → is_some o ≡ false → o ≡ None
not_missed None e = refl
not_missed (Some n) e = absurd cc

the_missed : (o : Option ℕ) → is_some o ≡ true → (n : ℕ) × (o ≡ Some n)
the_missed None e = absurd cc
the_missed (Some n) e = (n, refl)

same_number : (a b : ℕ) → ◌≡◌ {A = Option ℕ} (Some a) (Some b) → a ≡ b
same_number a b e = cc

-- one was missed before
pub missed_before : (lock above : ℕ) (numbers : List ℕ) (number : ℕ) (wanted : Wanted) → is_some wanted.missed ≡ true
    → AreBelow numbers number → Wants lock above numbers wanted → Wants lock above (numbers ++ number ∷ []) wanted
missed_before lock above numbers number wanted some below wants =
    let missed = the_missed wanted.missed some in record {
      same_lock = wants.same_lock;
      next = λ none. absurd (not_both wanted.missed missed.0 none missed.1);
      missed = λ m is.
          let has = wants.missed m is in record {
            first = still_lacking lock above numbers number m (λ same. omega
                (arith, same, has.beyond, below has.later has.there)) has.first;
            later = has.later;
            there = held_before numbers number has.later has.there;
            beyond = has.beyond;
          };
    }

-- a number that isn't wanted: none above the size before, or the lock page's
pub not_wanted : (lock above : ℕ) (numbers : List ℕ) (number : ℕ) (wanted : Wanted) → is_some wanted.missed ≡ false
    → number < wanted.next
    → Wants lock above numbers wanted → Wants lock above (numbers ++ number ∷ []) wanted
not_wanted lock above numbers number wanted none early wants =
    let is_none = not_missed wanted.missed none in
    let next = wants.next is_none in record {
      same_lock = wants.same_lock;
      next = λ _. record {
        first = still_lacking lock above numbers number wanted.next (λ same. omega (arith, same, early)) next.first;
        all = λ p has low. elim (held_which numbers number p has) [
          | inl before ↦ next.all p before low
          | inr now ↦
              omega (arith, now, early)
        ];
      };
      missed = λ m is. absurd (not_both wanted.missed m is_none is);
    }

-- a later number than the one that is wanted
pub misses : (lock above : ℕ) (numbers : List ℕ) (number : ℕ) (wanted : Wanted) → is_some wanted.missed ≡ false
    → wanted.next < number
    → Wants lock above numbers wanted → Wants lock above (numbers ++ number ∷ [])
    (record { lock = wanted.lock; next = wanted.next; missed = Some wanted.next })
misses lock above numbers number wanted none late wants =
    let next = wants.next (not_missed wanted.missed none) in record {
      same_lock = wants.same_lock;
      next = λ is. absurd (not_both (Some wanted.next) wanted.next is refl);
      missed = λ m is.
          let same : wanted.next ≡ m = same_number wanted.next m is in
          subst (HasMissed lock above (numbers ++ number ∷ [])) same (record {
            first = still_lacking lock above numbers number wanted.next (λ e. omega (arith, e, late)) next.first;
            later = number;
            there = held_now numbers number;
            beyond = late;
          });
    }

-- the number that is wanted
pub takes : (lock above : ℕ) (numbers : List ℕ) (number after : ℕ) (wanted : Wanted) → is_some wanted.missed ≡ false
    → number ≡ wanted.next
    → number < after → after ≢ wanted.lock → ((p : ℕ) → number < p → p < after → p ≡ wanted.lock)
    → Wants lock above numbers wanted → Wants lock above (numbers ++ number ∷ [])
    (record { lock = wanted.lock; next = after; missed = wanted.missed })
takes lock above numbers number after wanted none is beyond unlocked between wants =
    let is_none = not_missed wanted.missed none in
    let next = wants.next is_none in record {
      same_lock = wants.same_lock;
      next = λ _. record {
        first = record {
          above_it = omega (arith, next.first.above_it, is, beyond);
          unlocked = λ same. unlocked (same ∙ sym wants.same_lock);
          lacking = λ has. elim (held_which numbers number after has) [
            | inl before ↦ omega (
              arith,
              next.all after before (omega
                  (arith, next.first.above_it, is, beyond)),
              is,
              beyond,
            )
            | inr now ↦ omega (arith, now, beyond)
          ];
          least = λ p low high open_page. elim (cases_lt p number) [
            | inl early ↦ held_before numbers number p (next.first.least p low (omega (arith, early, is)) open_page)
            | inr from ↦ elim (cases_eq p number) [
              | inl same ↦ subst (λ (q : ℕ). Contains (numbers ++ number ∷ []) q) (sym same) (held_now numbers number)
              | inr other ↦ absurd (open_page (between p (omega (arith, from, other)) high ∙ wants.same_lock))
            ]
          ];
        };
        all = λ p has low. elim (held_which numbers number p has) [
          | inl before ↦ omega (arith, next.all p before low, is, beyond)
          | inr now ↦ omega (arith, now, beyond)
        ];
      };
      missed = λ m some. absurd (not_both wanted.missed m is_none some);
    }

-- ---- what is lacking

pub lacks_missed : (lock above : ℕ) (numbers : List ℕ) (wanted : Wanted) → Wants lock above numbers wanted
    → (o : Option ℕ) → wanted.missed ≡ o
    → IfSome o (IsFirstLacking lock above numbers)
lacks_missed lock above numbers wanted wants None is = tt
lacks_missed lock above numbers wanted wants (Some m) is = (wants.missed m is).first

pub missed_within : (lock above commit : ℕ) (numbers : List ℕ) (wanted : Wanted) → AreBelow numbers (commit + 1)
    → Wants lock above numbers wanted
    → (o : Option ℕ) → wanted.missed ≡ o → IfSome o (λ number. number ≤ commit)
missed_within lock above commit numbers wanted below wants None is = tt
missed_within lock above commit numbers wanted below wants (Some m) is =
    let has = wants.missed m is in omega (arith, has.beyond, below has.later has.there)
