-- The file that reads at a name is the one of its number.
use Rattle.std.proofs.Common.{◌≡◌, ℕ, ◌-◌, List, [], ◌∷◌, ◌++◌, length, replicate, eqb, Bool, true, false, cond, Option}
use Rattle.std.proofs.Common.{Some, None, option_map, refl, ap, sym, ◌∙◌, arith}
use Rattle.std.specs.Prelude.{unwrap_or}
use Rattle.std.specs.Option.{option_or}
use Rattle.crash_disk.specs.declared.event.Event.{Event}
use Rattle.crash_disk.specs.declared.event.Event.TheVariants.{Placed, Created, Appended, Wrote, Cut, Synced, Renamed}
use Rattle.crash_disk.specs.declared.event.Event.TheVariants.{Removed, NamesSynced}
use Rattle.crash_disk.specs.Files.{file_at, with_bytes_at, with_length, is_name}
use Rattle.crash_disk.proofs.FileLaws as reads
use Rattle.crash_disk.proofs.FileLaws.{at_name, at_other}
use Rattle.crash_disk.specs.FileState.{FileState, synced_file, appended, written, resized}
use Rattle.crash_disk.specs.Numbers.{number_at, file_of, changed_at}
use Rattle.crash_disk.proofs.NumberLaws.{by_names}
use Rattle.crash_disk.proofs.DistinctNumbers.{number_at-distinct, next_unused}
use Rattle.crash_disk.proofs.NumberedFiles.{same_test, other_test, changed_at-here, changed_at-other, file_of-unused}

-- the bytes of the file of this number, if there is one
abbrev pub bytes_by : (ℕ → FileState) → Option ℕ → Option (List ℕ)
bytes_by files number = option_map (λ n. (files n).bytes) number

changed_bytes : (files : ℕ → FileState) (there : Option ℕ) (g : FileState → FileState) (f : List ℕ → List ℕ)
    → ((file : FileState) → (g file).bytes ≡ f file.bytes)
    → bytes_by (λ n. changed_at there g n (files n)) there ≡ option_map f (bytes_by files there)
changed_bytes files None g f is = refl
changed_bytes files (Some n) g f is = ap (λ file. Some file.bytes) (changed_at-here (Some n) g n (files n) refl)
    ∙ ap Some (is (files n))

kept_bytes : (files : ℕ → FileState) (there here : Option ℕ) (g : FileState → FileState)
    → ((n : ℕ) → here ≡ Some n → there ≡ Some n → ⊥) → bytes_by
    (λ n. changed_at there g n (files n)) here ≡ bytes_by files here
kept_bytes files there None g apart = refl
kept_bytes files there (Some n) g apart = ap (λ file. Some file.bytes)
    (changed_at-other there g n (files n) (apart n refl))

-- a call that changes the file at a name
module _ (events : List Event) (name : List ℕ) (g : FileState → FileState) (f : List ℕ → List ℕ)
    (is : (file : FileState) → (g file).bytes ≡ f file.bytes)
    (old : (q : List ℕ) → file_at events q ≡ bytes_by (file_of events) (number_at events q)) where
  reads_changed : (q : List ℕ) → cond (is_name q name) (option_map f (file_at events name)) (file_at events q)
      ≡ bytes_by (λ n. changed_at (number_at events name) g n (file_of events n)) (number_at events q)
  reads_changed q =
      by_names q name
      (λ same. rw same (at_name name (option_map f (file_at events name)) (file_at events name)
      ∙ ap (option_map f) (old name) ∙ sym (changed_bytes (file_of events) (number_at events name) g f is)))
      (λ apart. at_other q name (option_map f (file_at events name)) (file_at events q) apart ∙ old q
      ∙ sym (kept_bytes (file_of events) (number_at events name) (number_at events q) g
      (λ n at there. apart (number_at-distinct events q name n at there))))

-- a sync changes no bytes
synced_bytes : (files : ℕ → FileState) (there here : Option ℕ) (g : FileState → FileState)
    → ((file : FileState) → (g file).bytes ≡ file.bytes) → bytes_by
    (λ n. changed_at there g n (files n)) here ≡ bytes_by files here
synced_bytes files there None g is = refl
synced_bytes files there (Some n) g is = ap Some
    (either_bytes (Rattle.crash_disk.specs.Numbers.is_number n there) (g (files n)) (files n) (is (files n)))
  where
    either_bytes : (b : Bool) (x y : FileState) → x.bytes ≡ y.bytes → (cond b x y).bytes ≡ y.bytes
    either_bytes true x y e = e
    either_bytes false x y e = refl

-- a cut to no length leaves no bytes
pub emptied : (bytes : List ℕ) → with_length 0 bytes ≡ []
emptied bytes = let none : 0 - length bytes ≡ 0 = omega arith in ap (λ n. replicate {A = ℕ} n 0) none

created_bytes : (events : List Event) (name : List ℕ) (there : Option ℕ) → there ≡ number_at events name
    → Some [] ≡ bytes_by (λ n. changed_at there (resized 0) n (file_of events n))
    (Some (unwrap_or there (length events)))
created_bytes events name None is = ap (λ file. Some file.bytes)
    (sym (file_of-unused events (length events) (omega arith)))
created_bytes events name (Some n) is =
    sym (ap (λ file. Some file.bytes) (changed_at-here (Some n) (resized 0) n (file_of events n) refl)
    ∙ ap Some (emptied (file_of events n).bytes))

placed_bytes : (events : List Event) (bytes : List ℕ) (number : Option ℕ)
    → ((n : ℕ) → number ≡ Some n → Some (length events) ≡ Some n → ⊥)
    → bytes_by (λ n. cond (eqb n (length events)) (synced_file bytes) (file_of events n)) number ≡ bytes_by
    (file_of events) number
placed_bytes events bytes None apart = refl
placed_bytes events bytes (Some n) apart = ap (λ b. Some (cond b (synced_file bytes) (file_of events n)).bytes)
    (other_test n (length events) (λ e. apart n refl (ap Some (sym e))))

map_cond : (files : ℕ → FileState) (b : Bool) (x y : Option ℕ)
    → bytes_by files (cond b x y) ≡ cond b (bytes_by files x) (bytes_by files y)
map_cond files true x y = refl
map_cond files false x y = refl

moved_bytes : (events : List Event) (from to q : List ℕ) (there : Option ℕ) → there ≡ number_at events from
    → ((r : List ℕ) → file_at events r ≡ bytes_by (file_of events) (number_at events r))
    → file_at (Renamed from to ∷ events) q ≡ bytes_by (file_of events)
    (cond (is_name q to) (option_or there (number_at events q)) (cond (is_name q from) None (number_at events q)))
moved_bytes events from to q None is old =
    let absent : file_at events from ≡ None = old from ∙ ap (bytes_by (file_of events)) (sym is) in
    reads.file_at-Renamed-absent events from to q absent ∙ old q
    ∙ by_names q to
    (λ same. sym (ap (λ b. bytes_by (file_of events)
    (cond b (number_at events q) (cond (is_name q from) None (number_at events q))))
    (ap (is_name q) (sym same) ∙ reads.is_name-same q)))
    (λ apart. by_names q from
    (λ same. ap (bytes_by (file_of events)) (ap (number_at events) same ∙ sym is)
    ∙ sym (ap (bytes_by (file_of events))
    (at_other q to (number_at events q) (cond (is_name q from) None (number_at events q)) apart
    ∙ ap (λ b. cond b None (number_at events q)) (ap (is_name q) (sym same) ∙ reads.is_name-same q))))
    (λ apart-from. sym (ap (bytes_by (file_of events))
    (at_other q to (number_at events q) (cond (is_name q from) None (number_at events q)) apart
    ∙ at_other q from None (number_at events q) apart-from))))
moved_bytes events from to q (Some n) is old =
    let there : file_at events from ≡ Some (file_of events n).bytes = old from
    ∙ ap (bytes_by (file_of events)) (sym is) in
    reads.file_at-Renamed events from to (file_of events n).bytes q there
    ∙ ap (λ file. cond (is_name q to) (Some (file_of events n).bytes) (cond (is_name q from) None file)) (old q)
    ∙ sym (map_cond (file_of events) (is_name q to) (Some n) (cond (is_name q from) None (number_at events q))
    ∙ ap (cond (is_name q to) (Some (file_of events n).bytes))
    (map_cond (file_of events) (is_name q from) None (number_at events q)))

-- what reads at a name is what the file of its number has
pub file_at-numbered : (events : List Event) (q : List ℕ) → file_at events q ≡ bytes_by (file_of events)
    (number_at events q)
unfolding number_at file_of
file_at-numbered [] q = reads.file_at-beginning q
file_at-numbered (Placed name bytes ∷ events) q =
    reads.file_at-Placed events name bytes q
    ∙ by_names q name
    (λ same. rw same (at_name name (Some bytes) (file_at events name)
    ∙ sym (ap (bytes_by (file_of (Placed name bytes ∷ events)))
    (at_name name (Some (length events)) (number_at events name))
    ∙ ap (λ b. Some (cond b (synced_file bytes) (file_of events (length events))).bytes) (same_test (length events)))))
    (λ apart. at_other q name (Some bytes) (file_at events q) apart ∙ file_at-numbered events q
    ∙ sym (ap (bytes_by (file_of (Placed name bytes ∷ events)))
    (at_other q name (Some (length events)) (number_at events q) apart)
    ∙ placed_bytes events bytes (number_at events q) (λ n at next. next_unused events q n next at)))
file_at-numbered (Created name ∷ events) q =
    reads.file_at-Created events name q
    ∙ by_names q name
    (λ same. rw same (at_name name (Some []) (file_at events name)
    ∙ created_bytes events name (number_at events name) refl
    ∙ sym (ap (bytes_by (file_of (Created name ∷ events)))
    (at_name name (Some (unwrap_or (number_at events name) (length events))) (number_at events name)))))
    (λ apart. at_other q name (Some []) (file_at events q) apart ∙ file_at-numbered events q
    ∙ sym (ap (bytes_by (file_of (Created name ∷ events)))
    (at_other q name (Some (unwrap_or (number_at events name) (length events))) (number_at events q) apart)
    ∙ kept_bytes (file_of events) (number_at events name) (number_at events q) (resized 0)
    (λ n at there. apart (number_at-distinct events q name n at there))))
file_at-numbered (Appended name bytes ∷ events) q = reads.file_at-Appended events name bytes q
    ∙ reads_changed events name (appended bytes) (λ old. old ++ bytes) (λ file. refl) (file_at-numbered events) q
file_at-numbered (Wrote name at bytes ∷ events) q = reads.file_at-Wrote events name at bytes q
    ∙ reads_changed events name (written at bytes) (with_bytes_at at bytes) (λ file. refl) (file_at-numbered events) q
file_at-numbered (Cut name size ∷ events) q = reads.file_at-Cut events name size q
    ∙ reads_changed events name (resized size) (with_length size) (λ file. refl) (file_at-numbered events) q
file_at-numbered (Synced name ∷ events) q =
    reads.file_at-Synced events name q ∙ file_at-numbered events q
    ∙ sym (synced_bytes (file_of events) (number_at events name) (number_at events q)
    (λ file. synced_file file.bytes) (λ file. refl))
file_at-numbered (Renamed from to ∷ events) q = moved_bytes events from to q (number_at events from) refl
    (file_at-numbered events)
file_at-numbered (Removed name ∷ events) q =
    reads.file_at-Removed events name q ∙ ap (cond (is_name q name) None) (file_at-numbered events q)
    ∙ sym (map_cond (file_of events) (is_name q name) None (number_at events q))
file_at-numbered (NamesSynced ∷ events) q = reads.file_at-NamesSynced events q ∙ file_at-numbered events q
