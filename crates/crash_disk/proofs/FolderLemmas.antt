-- A folder's files after one more change.
use Rattle.std.proofs.Common.{◌≡◌, ℕ, List, [], ◌∷◌, ◌++◌, reverse, ap, sym, ◌∙◌}
use Rattle.std.proofs.lemmas.List.{reverse-append}
use Rattle.std.specs.FinMap.{FinMap, get, insert, remove}
use Rattle.crash_disk.specs.declared.event.Event.{Event}
use Rattle.crash_disk.specs.declared.event.Event.TheVariants.{Placed, Created, Appended, Wrote, Cut, Synced, Renamed}
use Rattle.crash_disk.specs.declared.event.Event.TheVariants.{Removed, NamesSynced}
use Rattle.crash_disk.specs.Files.{Files, files_after, changed, moved, with_bytes_at, with_length}
use Rattle.crash_disk.specs.FolderFiles.{AreTheFiles}

-- what the change at hand makes of the files, where the record grew by it
grown : (files after : Files) (old new : List Event) (event : Event) → new ≡ old ++ event ∷ []
    → after ≡ files_after (event ∷ reverse old) → AreTheFiles after (reverse new)
grown files after old new event gains is = record
    { same = is ∙ ap files_after (sym (ap reverse gains ∙ reverse-append old (event ∷ []))) }

module _ (files after : Files) (old new : List Event) (kept : AreTheFiles files (reverse old)) where
  pub after_Placed : (name bytes n b file : List ℕ) → n ≡ name → b ≡ bytes → file ≡ bytes
      → new ≡ old ++ Placed n b ∷ [] → after ≡ insert files name file → AreTheFiles after (reverse new)
  unfolding files_after
  after_Placed name bytes n b file same_name same_bytes same_file gains is =
      grown files after old new (Placed n b) gains
      (is ∙ ap (λ m. insert m name file) kept.same ∙ ap (λ k. insert (files_after (reverse old)) k file)
      (sym same_name) ∙ ap (insert (files_after (reverse old)) n) (same_file ∙ sym same_bytes))

  pub after_Created : (name n none : List ℕ) → n ≡ name → none ≡ [] → new ≡ old ++ Created n ∷ []
      → after ≡ insert files name none → AreTheFiles after (reverse new)
  unfolding files_after
  after_Created name n none same_name is_none gains is =
      grown files after old new (Created n) gains
      (is ∙ ap (λ m. insert m name none) kept.same ∙ ap (λ k. insert (files_after (reverse old)) k none)
      (sym same_name) ∙ ap (insert (files_after (reverse old)) n) is_none)

  pub after_Appended : (name bytes n b : List ℕ) → n ≡ name → b ≡ bytes → new ≡ old ++ Appended n b ∷ []
      → after ≡ changed files name (get files name) (λ before. before ++ bytes) → AreTheFiles after (reverse new)
  unfolding files_after
  after_Appended name bytes n b same_name same_bytes gains is =
      let m = files_after (reverse old) in
      grown files after old new (Appended n b) gains
      (is ∙ ap (λ (m : Files). changed m name (get m name) (λ before. before ++ bytes)) kept.same
      ∙ ap (λ (k : List ℕ). changed m k (get m k) (λ before. before ++ bytes)) (sym same_name)
      ∙ ap (λ (more : List ℕ). changed m n (get m n) (λ before. before ++ more)) (sym same_bytes))

  pub after_Wrote : (name : List ℕ) (at : ℕ) (bytes n b : List ℕ) → n ≡ name → b ≡ bytes
      → new ≡ old ++ Wrote n at b ∷ [] → after ≡ changed files name (get files name) (with_bytes_at at bytes)
      → AreTheFiles after (reverse new)
  unfolding files_after
  after_Wrote name at bytes n b same_name same_bytes gains is =
      let m = files_after (reverse old) in
      grown files after old new (Wrote n at b) gains
      (is ∙ ap (λ (m : Files). changed m name (get m name) (with_bytes_at at bytes)) kept.same
      ∙ ap (λ (k : List ℕ). changed m k (get m k) (with_bytes_at at bytes)) (sym same_name)
      ∙ ap (λ (more : List ℕ). changed m n (get m n) (with_bytes_at at more)) (sym same_bytes))

  pub after_Cut : (name : List ℕ) (size : ℕ) (n : List ℕ) → n ≡ name → new ≡ old ++ Cut n size ∷ []
      → after ≡ changed files name (get files name) (with_length size) → AreTheFiles after (reverse new)
  unfolding files_after
  after_Cut name size n same_name gains is =
      let m = files_after (reverse old) in
      grown files after old new (Cut n size) gains
      (is ∙ ap (λ (m : Files). changed m name (get m name) (with_length size)) kept.same
      ∙ ap (λ (k : List ℕ). changed m k (get m k) (with_length size)) (sym same_name))

  pub after_Renamed : (from to f t : List ℕ) → f ≡ from → t ≡ to → new ≡ old ++ Renamed f t ∷ []
      → after ≡ moved files from to (get files from) → AreTheFiles after (reverse new)
  unfolding files_after
  after_Renamed from to f t same_from same_to gains is =
      let m = files_after (reverse old) in
      grown files after old new (Renamed f t) gains
      (is ∙ ap (λ (m : Files). moved m from to (get m from)) kept.same
      ∙ ap (λ (k : List ℕ). moved m k to (get m k)) (sym same_from)
      ∙ ap (λ (k : List ℕ). moved m f k (get m f)) (sym same_to))

  pub after_Removed : (name n : List ℕ) → n ≡ name → new ≡ old ++ Removed n ∷ [] → after ≡ remove files name
      → AreTheFiles after (reverse new)
  unfolding files_after
  after_Removed name n same_name gains is =
      grown files after old new (Removed n) gains
      (is ∙ ap (λ m. remove m name) kept.same ∙ ap (remove (files_after (reverse old))) (sym same_name))

module _ (files : Files) (old new : List Event) (kept : AreTheFiles files (reverse old)) where
  pub after_Synced : (n : List ℕ) → new ≡ old ++ Synced n ∷ [] → AreTheFiles files (reverse new)
  unfolding files_after
  after_Synced n gains = grown files files old new (Synced n) gains kept.same

  pub after_NamesSynced : new ≡ old ++ NamesSynced ∷ [] → AreTheFiles files (reverse new)
  unfolding files_after
  after_NamesSynced gains = grown files files old new NamesSynced gains kept.same

pub no_files : (files : Files) (events : List Event) → files ≡ Rattle.std.specs.FinMap.empty → events ≡ []
    → AreTheFiles files (reverse events)
unfolding files_after
no_files files events is none = record { same = is ∙ ap (λ e. files_after (reverse e)) (sym none) }
