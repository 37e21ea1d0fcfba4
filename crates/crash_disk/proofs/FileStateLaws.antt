-- The bytes of a file as they read are one of its images.
use Rattle.std.proofs.Common.{◌≡◌, ℕ, ◌+◌, ◌-◌, ◌<◌, ◌≤◌, min, ◌⊎◌, inl, inr, List, ◌++◌, length, take, drop, replicate}
use Rattle.std.proofs.Common.{get_or, refl, ap, sym, subst, ◌∙◌, arith, length-append, length-drop}
use Rattle.std.proofs.lemmas.Bool.{cases_lt}
use Rattle.std.proofs.lemmas.List.{get_or_append_left, get_or-append_right, get_or-take, get_or-drop, length-take}
use Rattle.std.proofs.lemmas.List.{length-replicate}
use Rattle.crash_disk.specs.Files.{with_bytes_at, with_length}
use Rattle.crash_disk.specs.FileState.{FileState, Range, IsInside, synced_file, changed_in, appended, written, resized}
use Rattle.crash_disk.specs.FileState.{IsFileImage}

-- the bytes agree with the old ones outside the range, and are no longer there
pub record ChangesIn (range : Range) (old new : List ℕ) : Type 0 where
  pub outside : (place : ℕ) → place < length new → (IsInside place range → ⊥) → (place < length old)
      × (get_or new place 0 ≡ get_or old place 0)

pub IsFileImage-synced : (bytes : List ℕ) → IsFileImage (synced_file bytes) bytes
IsFileImage-synced bytes = record { had_length = inl refl; kept = λ place _ _ _. refl }

changed_reads : (range : Range) (bytes : List ℕ) (file : FileState) → ChangesIn range file.bytes bytes
    → IsFileImage file file.bytes → IsFileImage (changed_in range bytes file) bytes
changed_reads range bytes file change is = record {
  had_length = inl refl;
  kept = λ place below synced free.
      let same = change.outside place below (λ inside. free (inl inside)) in
      same.1 ∙ is.kept place same.0 synced (λ inside. free (inr inside));
}

appended_changes : (old more : List ℕ) → ChangesIn (record { start = length old; end = length old + length more }) old
    (old ++ more)
appended_changes old more = record {
  outside = λ place below free.
      let before : place < length old = by_place place below free in
      (before, get_or_append_left old more 0 place before);
}
  where
    by_place : (place : ℕ) → place < length (old ++ more)
        → ((length old ≤ place) × (place < length old + length more) → ⊥) → place < length old
    by_place place below free = grind (arith, length-append old more)

pub resized_changes : (size : ℕ) (old : List ℕ) → ChangesIn (record { start = length old; end = size }) old
    (with_length size old)
resized_changes size old = record {
  outside = λ place below free.
      let front = take size old in
      let sizes : length (with_length size old) ≡ min size (length old) + (size - length old) = length-append front
      (replicate (size - length old) 0) ∙ ap (λ n. n + length (replicate {A = ℕ} (size - length old) 0))
      (length-take size old) ∙ ap (λ n. min size (length old) + n) (length-replicate (size - length old) 0) in
      let before = by_place place (length (with_length size old)) sizes below free in (
        before.0,
        get_or_append_left front (replicate (size - length old) 0) 0 place
            (subst (λ n. place < n) (sym (length-take size old)) before.2) ∙ get_or-take size old place 0 before.1,
      );
}
  where
    by_place : (place total : ℕ) → total ≡ min size (length old) + (size - length old) → place < total
        → ((length old ≤ place) × (place < size) → ⊥) → (place < length old) × (place < size)
        × (place < min size (length old))
    by_place place total sizes below free = (grind arith, grind arith, grind arith)

pub written_changes : (at : ℕ) (bytes old : List ℕ) → ChangesIn
    (record { start = min at (length old); end = at + length bytes }) old (with_bytes_at at bytes old)
written_changes at bytes old = record
    { outside = λ place below free. by_place place (subst (λ n. place < n) sizes below) free (cases_lt place at) }
  where
    longer : List ℕ
    longer = old ++ replicate (at - length old) 0

    rest : List ℕ
    rest = drop (at + length bytes) old

    front : length (take at longer) ≡ at
    front = length-take at longer ∙ ap (min at)
        (length-append old (replicate (at - length old) 0) ∙ ap (λ n. length old + n)
        (length-replicate (at - length old) 0)) ∙ least at (length old)
      where
        least : (a n : ℕ) → min a (n + (a - n)) ≡ a
        least a n = omega arith

    head : length (take at longer ++ bytes) ≡ at + length bytes
    head = length-append (take at longer) bytes ∙ ap (λ n. n + length bytes) front

    sizes : length (with_bytes_at at bytes old) ≡ at + length bytes + (length old - (at + length bytes))
    sizes = length-append (take at longer ++ bytes) rest ∙ ap (λ n. n + length rest) head
        ∙ ap (λ n. at + length bytes + n) (length-drop (at + length bytes) old)

    by_place : (place : ℕ) → place < at + length bytes + (length old - (at + length bytes))
        → ((min at (length old) ≤ place) × (place < at + length bytes) → ⊥) → (place < at) ⊎ (at ≤ place)
        → (place < length old) × (get_or (with_bytes_at at bytes old) place 0 ≡ get_or old place 0)
    by_place place below free (inl before) =
        let old_place : place < length old = elim (cases_lt place (length old))
        [ inl h ↦ h | inr h ↦ absurd (free (omega arith, omega arith)) ] in
        let in_head : place < length (take at longer ++ bytes) = rw head (omega arith) in (
          old_place,
          get_or_append_left (take at longer ++ bytes) rest 0 place in_head
              ∙ get_or_append_left (take at longer) bytes 0 place (subst (λ n. place < n) (sym front) before)
              ∙ get_or-take at longer place 0 before
              ∙ get_or_append_left old (replicate (at - length old) 0) 0 place old_place,
        )
    by_place place below free (inr after) =
        let past : at + length bytes ≤ place = elim (cases_lt place (at + length bytes))
        [ inl h ↦ absurd (free (omega arith, omega arith)) | inr h ↦ h ] in
        let back : at + length bytes + (place - (at + length bytes)) ≡ place = omega arith in (
          omega arith,
          get_or-append_right (take at longer ++ bytes) rest (at + length bytes) place 0 head past
              ∙ get_or-drop (at + length bytes) old (place - (at + length bytes)) 0 ∙ ap (λ n. get_or old n 0) back,
        )

pub IsFileImage-appended : (more : List ℕ) (file : FileState) → IsFileImage file file.bytes
    → IsFileImage (appended more file) (file.bytes ++ more)
IsFileImage-appended more file is = changed_reads _ (file.bytes ++ more) file (appended_changes file.bytes more) is

pub IsFileImage-written : (at : ℕ) (bytes : List ℕ) (file : FileState) → IsFileImage file file.bytes
    → IsFileImage (written at bytes file) (with_bytes_at at bytes file.bytes)
IsFileImage-written at bytes file is = changed_reads _ (with_bytes_at at bytes file.bytes) file
    (written_changes at bytes file.bytes) is

pub IsFileImage-resized : (size : ℕ) (file : FileState) → IsFileImage file file.bytes
    → IsFileImage (resized size file) (with_length size file.bytes)
IsFileImage-resized size file is = changed_reads _ (with_length size file.bytes) file
    (resized_changes size file.bytes) is
