-- No two names have the same file.
use Rattle.std.proofs.Common.{◌≡◌, ◌≢◌, ℕ, ◌<◌, List, [], ◌∷◌, length, cond, Option, Some, None, IfSome, refl, sym}
use Rattle.std.proofs.Common.{subst, ◌∙◌, arith}
use Rattle.std.proofs.lemmas.Option.{none-some}
use Rattle.std.specs.Prelude.{unwrap_or}
use Rattle.std.specs.Option.{option_or}
use Rattle.crash_disk.specs.declared.event.Event.{Event}
use Rattle.crash_disk.specs.declared.event.Event.TheVariants.{Placed, Created, Appended, Wrote, Cut, Synced, Renamed}
use Rattle.crash_disk.specs.declared.event.Event.TheVariants.{Removed, NamesSynced}
use Rattle.crash_disk.specs.Files.{is_name}
use Rattle.crash_disk.proofs.FileLaws.{at_name, at_other}
use Rattle.crash_disk.specs.Numbers.{number_at}
use Rattle.crash_disk.proofs.NumberLaws.{by_names, number_at-below}

-- no two names have the same number
abbrev IsDistinct : (List ℕ → Option ℕ) → Type 0
IsDistinct number = (q r : List ℕ) (n : ℕ) → number q ≡ Some n → number r ≡ Some n → q ≡ r

pub same_number : (n k : ℕ) → Some n ≡ Some k → n ≡ k
same_number n k e = subst (λ number. IfSome number (λ x. n ≡ x)) e refl

module _ (old here : List ℕ → Option ℕ) (name : List ℕ) where
  at_the_name : (q : List ℕ) (n : ℕ) → q ≡ name → cond (is_name q name) (here q) (old q) ≡ Some n → here name ≡ Some n
  at_the_name q n same e = sym (at_name name (here name) (old name))
      ∙ subst (λ x. cond (is_name x name) (here x) (old x) ≡ Some n) same e

  at_another : (q : List ℕ) (n : ℕ) → q ≢ name → cond (is_name q name) (here q) (old q) ≡ Some n → old q ≡ Some n
  at_another q n apart e = sym (at_other q name (here q) (old q) apart) ∙ e

  -- where the number put at the name is that of no other name
  distinct_after : IsDistinct old → ((q : List ℕ) (n : ℕ) → q ≢ name → here name ≡ Some n → old q ≡ Some n → ⊥)
      → IsDistinct (λ q. cond (is_name q name) (here q) (old q))
  distinct_after distinct alone q r n at-q at-r =
      by_names q name
      (λ same-q. by_names r name (λ same-r. same-q ∙ sym same-r)
      (λ apart-r. absurd (alone r n apart-r (at_the_name q n same-q at-q) (at_another r n apart-r at-r))))
      (λ apart-q. by_names r name (λ same-r. absurd
      (alone q n apart-q (at_the_name r n same-r at-r) (at_another q n apart-q at-q)))
      (λ apart-r. distinct q r n (at_another q n apart-q at-q) (at_another r n apart-r at-r)))

-- the next number is none of those in use
pub next_unused : (events : List Event) (q : List ℕ) (n : ℕ) → Some (length events) ≡ Some n
    → number_at events q ≡ Some n → ⊥
next_unused events q n next there =
    let below : n < length events = subst (λ number. IfSome number (λ k. k < length events)) there
    (number_at-below events q) in
    omega (arith, same_number (length events) n next, below)

created_alone : (events : List Event) (name q : List ℕ) (n : ℕ) (number : Option ℕ) → number ≡ number_at events name
    → IsDistinct (number_at events) → q ≢ name
    → Some (unwrap_or number (length events)) ≡ Some n → number_at events q ≡ Some n → ⊥
created_alone events name q n None is distinct apart at there = next_unused events q n at there
created_alone events name q n (Some k) is distinct apart at there = apart (distinct q name n there (sym is ∙ at))

moved_alone : (old : List ℕ → Option ℕ) (from to q : List ℕ) (n : ℕ) (number : Option ℕ) → number ≡ old from
    → IsDistinct old → q ≢ to → q ≢ from → option_or number (old to) ≡ Some n → old q ≡ Some n → ⊥
moved_alone old from to q n None is distinct apart-to apart-from at there = apart-to (distinct q to n there at)
moved_alone old from to q n (Some k) is distinct apart-to apart-from at there = apart-from
    (distinct q from n there (sym is ∙ at))

-- no two names have the same number, whatever was done
pub number_at-distinct : (events : List Event) (q r : List ℕ) (n : ℕ) → number_at events q ≡ Some n
    → number_at events r ≡ Some n → q ≡ r
unfolding number_at
number_at-distinct [] q r n = λ at-q at-r. absurd (none-some n at-q)
number_at-distinct (Placed name bytes ∷ events) q r n =
    distinct_after (number_at events) (λ _. Some (length events)) name (number_at-distinct events)
    (λ x k apart at there. next_unused events x k at there) q r n
number_at-distinct (Created name ∷ events) q r n =
    distinct_after (number_at events) (λ _. Some (unwrap_or (number_at events name) (length events))) name
    (number_at-distinct events)
    (λ x k apart at there. created_alone events name x k (number_at events name) refl (number_at-distinct events)
    apart at there) q r n
number_at-distinct (Appended name bytes ∷ events) q r n = number_at-distinct events q r n
number_at-distinct (Wrote name at bytes ∷ events) q r n = number_at-distinct events q r n
number_at-distinct (Cut name size ∷ events) q r n = number_at-distinct events q r n
number_at-distinct (Synced name ∷ events) q r n = number_at-distinct events q r n
number_at-distinct (Renamed from to ∷ events) q r n =
    let old = number_at events in
    let gone : List ℕ → Option ℕ = λ q. cond (is_name q from) None (old q) in
    distinct_after gone (λ q. option_or (old from) (old q)) to
    (distinct_after old (λ _. None) from (number_at-distinct events) (λ x k apart at there. none-some k at))
    (λ x k apart at there. by_names x from
    (λ same. none-some k (sym (at_name from None (old from))
    ∙ subst (λ y. cond (is_name y from) None (old y) ≡ Some k) same there))
    (λ apart-from. moved_alone old from to x k (old from) refl (number_at-distinct events) apart apart-from at
    (sym (at_other x from None (old x) apart-from) ∙ there))) q r n
number_at-distinct (Removed name ∷ events) q r n = distinct_after (number_at events)
    (λ _. None) name (number_at-distinct events) (λ x k apart at there. none-some k at) q r n
number_at-distinct (NamesSynced ∷ events) q r n = number_at-distinct events q r n
