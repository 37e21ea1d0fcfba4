-- The files as they read are those behind the names.
use Rattle.std.proofs.Common.{◌≡◌, ◌≢◌, ℕ, ◌<◌, ◌≤◌, List, [], ◌∷◌, length, true, false, cond, Option, Some, None}
use Rattle.std.proofs.Common.{IfSome, refl, ap, sym, subst, ◌∙◌, arith, eqb}
use Rattle.crash_disk.specs.declared.event.Event.{Event}
use Rattle.crash_disk.specs.declared.event.Event.TheVariants.{Placed, Created, Appended, Wrote, Cut, Synced, Renamed}
use Rattle.crash_disk.specs.declared.event.Event.TheVariants.{Removed, NamesSynced}
use Rattle.crash_disk.specs.FileState.{FileState, synced_file, appended, written, resized}
use Rattle.crash_disk.specs.Numbers.{number_at, file_of, is_number, changed_at}
use Rattle.crash_disk.proofs.NumberLaws.{number_at-below}

pub same_test : (n : ℕ) → eqb n n ≡ true
same_test n = grind arith

pub other_test : (n k : ℕ) → n ≢ k → eqb n k ≡ false
other_test n k apart = grind arith

-- a file under another number isn't changed
pub is_number-other : (n : ℕ) (there : Option ℕ) → (there ≡ Some n → ⊥) → is_number n there ≡ false
is_number-other n None apart = refl
is_number-other n (Some k) apart = other_test n k (λ e. apart (ap Some (sym e)))

pub changed_at-other : (there : Option ℕ) (f : FileState → FileState) (n : ℕ) (file : FileState)
    → (there ≡ Some n → ⊥) → changed_at there f n file ≡ file
changed_at-other there f n file apart = ap (λ b. cond b (f file) file) (is_number-other n there apart)

pub changed_at-here : (there : Option ℕ) (f : FileState → FileState) (n : ℕ) (file : FileState) → there ≡ Some n
    → changed_at there f n file ≡ f file
changed_at-here there f n file here = ap (λ number. changed_at number f n file) here
    ∙ ap (λ b. cond b (f file) file) (same_test n)

-- a number that isn't below the length of the record is none
unused : (events : List Event) (q : List ℕ) (n : ℕ) → length events ≤ n → number_at events q ≡ Some n → ⊥
unused events q n past there =
    let below : n < length events = subst (λ number. IfSome number (λ k. k < length events)) there
    (number_at-below events q) in
    omega (arith, below, past)

-- a file that isn't made yet is empty
pub file_of-unused : (events : List Event) (n : ℕ) → length events ≤ n → file_of events n ≡ synced_file []
unfolding file_of
file_of-unused [] n past = refl
file_of-unused (Placed name bytes ∷ events) n past = ap (λ b. cond b (synced_file bytes) (file_of events n))
    (other_test n (length events) (omega arith)) ∙ file_of-unused events n (omega arith)
file_of-unused (Created name ∷ events) n past = changed_at-other _ (resized 0) n _
    (unused events name n (omega arith)) ∙ file_of-unused events n (omega arith)
file_of-unused (Appended name bytes ∷ events) n past = changed_at-other _ (appended bytes) n _
    (unused events name n (omega arith)) ∙ file_of-unused events n (omega arith)
file_of-unused (Wrote name at bytes ∷ events) n past = changed_at-other _ (written at bytes) n _
    (unused events name n (omega arith)) ∙ file_of-unused events n (omega arith)
file_of-unused (Cut name size ∷ events) n past = changed_at-other _ (resized size) n _
    (unused events name n (omega arith)) ∙ file_of-unused events n (omega arith)
file_of-unused (Synced name ∷ events) n past = changed_at-other _
    (λ file. synced_file file.bytes) n _ (unused events name n (omega arith)) ∙ file_of-unused events n (omega arith)
file_of-unused (Renamed from to ∷ events) n past = file_of-unused events n (omega arith)
file_of-unused (Removed name ∷ events) n past = file_of-unused events n (omega arith)
file_of-unused (NamesSynced ∷ events) n past = file_of-unused events n (omega arith)
