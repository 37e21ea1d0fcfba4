-- The files of a plan, opened one after another.
use Rattle.std.proofs.Common.{◌≡◌, ℕ, zero, suc, ◌+◌, ◌<◌, ◌≤◌, List, [], ◌∷◌, ◌++◌, length, take, drop, get_or}
use Rattle.std.proofs.Common.{Option, Some, None, refl, sym, ap, subst, ◌∙◌, arith, inl, inr}
use Rattle.std.specs.Prelude.{slice_get, unwrap_or}
use Rattle.std.proofs.lemmas.List.{take_more, take-append-drop, drop_more, take_all, length_push}
use Rattle.std.proofs.lemmas.Bool.{cases_lt}
use Rattle.crash_disk.specs.Files.{Files}
use Rattle.ltx_reader.specs.declared.progress.Progress.TheVariants.{Going}
use Rattle.replica_store.specs.declared.error.Damage.TheVariants.{SizeDiffers}
use Rattle.replica_store.specs.declared.file_name.FileName.{FileName}
use Rattle.page_cursors.specs.declared.cursor.Cursor.{Cursor}
use Rattle.page_cursors.specs.declared.opening.Odd.{Odd}
use Rattle.page_cursors.specs.declared.opening.Opened.{Opened}
use Rattle.page_cursors.specs.Cursor.{HasGiven, HaveSize, commit_of}
use Rattle.page_cursors.specs.Opening.{IsOdd, names_of, commits_from, HaveBegun, CoversPlan, AreOpened}
use Rattle.page_cursors.proofs.TakeLemmas.{length-commits}

-- the cursors have this page size; where there is none yet, there is no cursor
abbrev pub FitsSize : Option ℕ → List Cursor → Type 0
FitsSize None cursors = cursors ≡ []
FitsSize (Some size) cursors = HaveSize size cursors

-- these files were opened, and the last leaves so many pages
pub record AreOpenedTo (files : Files) (plan : List FileName) (size : Option ℕ) (pages : ℕ)
    (cursors : List Cursor) : Type 0 where
  pub names : names_of cursors ≡ plan
  pub begun : HaveBegun files (unwrap_or size 0) 0 cursors
  pub ends : slice_get (commits_from 0 cursors) (length cursors) ≡ Some pages
  pub some : size ≡ None → cursors ≡ []
  pub none : cursors ≡ [] → size ≡ None

pub none_opened : (files : Files) → AreOpenedTo files [] None 0 []
none_opened files = record {
  names = refl;
  begun = λ place commit cursor is at. absurd cc;
  ends = refl;
  some = λ e.
      refl;
  none = λ e. refl;
}

names-push : (cursors : List Cursor) (cursor : Cursor)
    → names_of (cursors ++ cursor ∷ []) ≡ names_of cursors ++ cursor.name ∷ []
names-push [] cursor = refl
names-push (c ∷ cursors) cursor = ap (λ (ns : List FileName). c.name ∷ ns) (names-push cursors cursor)

commits-push : (before : ℕ) (cursors : List Cursor) (cursor : Cursor)
    → commits_from before (cursors ++ cursor ∷ []) ≡ commits_from before cursors ++ commit_of cursor ∷ []
commits-push before [] cursor = refl
commits-push before (c ∷ cursors) cursor = ap (λ (ns : List ℕ). before ∷ ns) (commits-push (commit_of c) cursors cursor)

get-push_before : {X : Type 0} (xs : List X) (x y : X) (k : ℕ) → slice_get (xs ++ x ∷ []) k ≡ Some y → k < length xs
    → slice_get xs k ≡ Some y
get-push_before [] x y k is low = absurd (omega (arith, low))
get-push_before (z ∷ xs) x y zero is low = is
get-push_before (z ∷ xs) x y (suc k) is low = get-push_before xs x y k is (omega (arith, low))

get-push_last : {X : Type 0} (xs : List X) (x : X) → slice_get (xs ++ x ∷ []) (length xs) ≡ Some x
get-push_last [] x = refl
get-push_last (z ∷ xs) x = get-push_last xs x

get-push_past : {X : Type 0} (xs : List X) (x y : X) (k : ℕ) → slice_get (xs ++ x ∷ []) k ≡ Some y → length xs ≤ k
    → (k ≡ length xs) × (x ≡ y)
get-push_past [] x y zero is low = (refl, cc)
get-push_past [] x y (suc k) is low = absurd cc
get-push_past (z ∷ xs) x y zero is low = absurd (omega (arith, low))
get-push_past (z ∷ xs) x y (suc k) is low = let rest = get-push_past xs x y k is (omega (arith, low)) in (
  ap
      (λ n. suc n) rest.0,
  rest.1,
)

same_size : (size : Option ℕ) (own : ℕ) (cursors : List Cursor) → unwrap_or size own ≡ own → (size ≡ None
    → cursors ≡ []) → (k : ℕ) (c : Cursor) → slice_get cursors k ≡ Some c → unwrap_or size 0 ≡ own
same_size None own cursors is none k c at = let e = none refl in let nothing = subst (λ
    (cs : List Cursor). slice_get cs k ≡ Some c) e at in absurd cc
same_size (Some size) own cursors is none k c at = is

same_number : (a b : ℕ) → ◌≡◌ {A = Option ℕ} (Some a) (Some b) → a ≡ b
same_number a b e = cc

push_some : (cursors : List Cursor) (cursor : Cursor) → cursors ++ cursor ∷ [] ≡ [] → ⊥
push_some [] cursor e = cc
push_some (c ∷ cursors) cursor e = cc

pub names_next : (plan : List FileName) (at : ℕ) (cursors : List Cursor) (cursor : Cursor) (name : FileName)
    → at < length plan → name ≡ get_or plan at name → names_of cursors ≡ take at plan → cursor.name ≡ name
    → names_of (cursors ++ cursor ∷ []) ≡ take (at + 1) plan
names_next plan at cursors cursor name low is names named =
    names-push cursors cursor ∙ ap (λ (ns : List FileName). ns ++ cursor.name ∷ []) names
    ∙ ap (λ (n : FileName). take at plan ++ n ∷ []) named
    ∙ sym (take_more plan at name low ∙ ap (λ (n : FileName). take at plan ++ n ∷ []) (sym is))

pub names_all : (plan names : List FileName) (at : ℕ) → length plan ≤ at → names ≡ take at plan → names ≡ plan
names_all plan names at all is = is ∙ take_all at plan all

-- one file more
pub opened_next : (files : Files) (plan : List FileName) (at : ℕ) (size : Option ℕ) (pages : ℕ)
    (cursors : List Cursor) (cursor : Cursor) (name : FileName) → at < length plan → name ≡ get_or plan at name
    → AreOpenedTo files (take at plan) size pages cursors → cursor.name ≡ name
    → HasGiven files cursor.reader.header.size 1 pages cursor [] → cursor.reader.progress ≡ Going
    → unwrap_or size cursor.reader.header.size ≡ cursor.reader.header.size
    → AreOpenedTo files (take (at + 1) plan) (Some cursor.reader.header.size) (commit_of cursor)
    (cursors ++ cursor ∷ [])
opened_next files plan at size pages cursors cursor name low is opened named given going sized = record {
  names = names-push cursors cursor ∙ ap (λ (ns : List FileName). ns ++ cursor.name ∷ []) opened.names
      ∙ ap (λ (n : FileName). take at plan ++ n ∷ []) named ∙ sym (take_more plan at name low
      ∙ ap (λ (n : FileName). take at plan ++ n ∷ []) (sym is));
  begun = λ place commit c here at_commit.
      let commits = subst (λ (ns : List ℕ). slice_get ns place ≡ Some commit)
      (commits-push 0 cursors cursor) at_commit in
      elim (cases_lt place (length cursors)) [
        | inl less ↦
            let was = get-push_before cursors cursor c place here less in
            let facts = opened.begun place commit c was (get-push_before (commits_from 0 cursors)
            (commit_of cursor) commit place commits (omega (arith, less, length-commits 0 cursors))) in (
              subst (λ (n : ℕ). HasGiven files n 1 commit c [])
                  (same_size size cursor.reader.header.size cursors sized opened.some place c was) facts.0,
              facts.1,
            )
        | inr past ↦
            let last = get-push_past cursors cursor c place here past in
            let before = get-push_before (commits_from 0 cursors) (commit_of cursor) commit place commits (omega
            (arith, last.0, length-commits 0 cursors)) in
            let same = same_number pages commit (sym opened.ends
            ∙ subst (λ (n : ℕ). slice_get (commits_from 0 cursors) n ≡ Some commit) last.0 before) in
            subst (λ (x : Cursor). HasGiven files cursor.reader.header.size 1 commit x [] ×
            (x.reader.progress ≡ Going)) last.1
            (subst (λ (n : ℕ). HasGiven files cursor.reader.header.size 1 n cursor []) same given, going)
      ];
  ends =
      subst (λ (ns : List ℕ). slice_get ns (length (cursors ++ cursor ∷ [])) ≡ Some (commit_of cursor)) (sym
      (commits-push 0 cursors cursor))
      (subst (λ (n : ℕ). slice_get (commits_from 0 cursors ++ commit_of cursor ∷ []) n ≡ Some (commit_of cursor))
      (length-commits 0 cursors ∙ sym (length_push cursors cursor))
      (get-push_last (commits_from 0 cursors) (commit_of cursor)));
  some = λ none. cc;
  none = λ none. absurd (push_some cursors cursor none);
}

pub fits_next : (size : Option ℕ) (cursors : List Cursor) (cursor : Cursor) → FitsSize size cursors
    → unwrap_or size cursor.reader.header.size ≡ cursor.reader.header.size
    → FitsSize (Some cursor.reader.header.size) (cursors ++ cursor ∷ [])
fits_next None cursors cursor fits sized k c is =
    let one = subst (λ (cs : List Cursor). slice_get (cs ++ cursor ∷ []) k ≡ Some c) fits is in
    let last = get-push_past [] cursor c k one (omega arith) in ap (λ (x : Cursor). x.reader.header.size) (sym last.1)
fits_next (Some size) cursors cursor fits sized k c is = elim (cases_lt k (length cursors)) [
  | inl less ↦ fits k c (get-push_before cursors cursor c k is less) ∙ sized
  | inr past ↦ let last = get-push_past cursors cursor c k is past in ap (λ (x : Cursor). x.reader.header.size)
      (sym last.1)
]

pub one_size : (size : Option ℕ) (cursors : List Cursor) → FitsSize size cursors → (n : ℕ) × HaveSize n cursors
one_size None cursors fits = (
  0,
  λ k c is. let nothing = subst (λ
      (cs : List Cursor). slice_get cs k ≡ Some c) fits is in absurd cc,
)
one_size (Some size) cursors fits = (size, fits)

split_at : (plan : List FileName) (at : ℕ) (name : FileName) → at < length plan → name ≡ get_or plan at name
    → plan ≡ take at plan ++ name ∷ drop (at + 1) plan
split_at plan at name below is =
    sym (take-append-drop at plan) ∙ ap (λ rest. take at plan ++ rest) (drop_more plan at name below)
    ∙ ap (λ (n : FileName). take at plan ++ n ∷ drop (at + 1) plan) (sym is)

-- a file that isn't taken in, behind the others
pub opened_odd : (files : Files) (plan : List FileName) (at : ℕ) (size : Option ℕ) (pages : ℕ) (opened : Opened)
    (odd : Odd) (name : FileName) → at < length plan → name ≡ get_or plan at name
    → AreOpenedTo files (take at plan) size pages opened.cursors.items → opened.odd ≡ Some odd → odd.name ≡ name
    → (opened.cursors.items ≡ [] → odd.damage ≡ SizeDiffers → ⊥) → IsOdd files (unwrap_or size 0) odd
    → AreOpened files plan opened
opened_odd files plan at size pages opened odd name low is so_far odd_is named first is_odd = record {
  size = unwrap_or size 0;
  begun = so_far.begun;
  covers = subst (λ (o : Option Odd). CoversPlan files (unwrap_or size 0) plan opened.cursors.items o) (sym odd_is) (
    (
      drop (at + 1) plan,
      split_at plan at name low is
          ∙ ap (λ (ns : List FileName). ns ++ name ∷ drop (at + 1) plan) (sym so_far.names)
          ∙ ap (λ (n : FileName). names_of opened.cursors.items ++ n ∷ drop (at + 1) plan) (sym named),
    ),
    first,
    is_odd,
  );
}

pub opened_all : (files : Files) (plan : List FileName) (at : ℕ) (size : Option ℕ) (pages : ℕ) (opened : Opened)
    → length plan ≤ at → AreOpenedTo files (take at plan) size pages opened.cursors.items
    → opened.odd ≡ None → AreOpened files plan opened
opened_all files plan at size pages opened all so_far none = record {
  size = unwrap_or size 0;
  begun = so_far.begun;
  covers = subst (λ (o : Option Odd). CoversPlan files (unwrap_or size 0) plan opened.cursors.items o) (sym none)
      (so_far.names ∙ take_all at plan all);
}
