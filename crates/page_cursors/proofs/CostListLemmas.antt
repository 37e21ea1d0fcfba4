-- What the steps of many cursors cost.
use Rattle.std.proofs.Common.{◌≡◌, ℕ, zero, suc, ◌+◌, ◌*◌, ◌≤◌, ◌<◌, List, [], ◌∷◌, ◌++◌, length, take, drop, Option}
use Rattle.std.proofs.Common.{Some, None, refl, sym, ap, subst, ◌∙◌, inl, inr, arith}
use Rattle.std.specs.Prelude.{slice_get, slice_set, Result, Ok, Err, IfErr}
use Rattle.crash_disk.specs.Files.{Files}
use Rattle.ltx_reader.specs.Reader.{Reader}
use Rattle.replica_store.specs.declared.file_name.FileName.{FileName}
use Rattle.page_cursors.specs.declared.cursor.Cursor.{Cursor}
use Rattle.page_cursors.specs.Cursor.{bytes_of}
use Rattle.page_cursors.specs.Costs.{Cost, nothing, both, file_cost, plan_cost, Takes, left_of, left_of_all, IsCounted}
use Rattle.page_cursors.specs.Costs.{AreCounted}
use Rattle.page_cursors.proofs.CostLemmas.{takes_by, takes_none, takes_then}

pub counted_at : (files : Files) (cursors : List Cursor) (place : ℕ) (cursor : Cursor) → AreCounted files cursors
    → slice_get cursors place ≡ Some cursor → IsCounted files cursor.name cursor.reader
counted_at files [] place cursor counted is = absurd cc
counted_at files (c ∷ cursors) zero cursor counted is =
    let same : c ≡ cursor = cc in subst (λ (x : Cursor). IsCounted files x.name x.reader) same counted.0
counted_at files (c ∷ cursors) (suc place) cursor counted is = counted_at files cursors place cursor counted.1 is

pub counted-set : (files : Files) (cursors : List Cursor) (place : ℕ) (moved : Cursor) → AreCounted files cursors
    → IsCounted files moved.name moved.reader → AreCounted files (slice_set cursors place moved)
counted-set files [] place moved counted here = tt
counted-set files (c ∷ cursors) zero moved counted here = (here, counted.1)
counted-set files (c ∷ cursors) (suc place) moved counted here =
    (counted.0, counted-set files cursors place moved counted.1 here)

pub counted-take : (files : Files) (cursors : List Cursor) (place : ℕ) → AreCounted files cursors
    → AreCounted files (take place cursors)
counted-take files cursors zero counted = tt
counted-take files [] (suc place) counted = tt
counted-take files (c ∷ cursors) (suc place) counted = (counted.0, counted-take files cursors place counted.1)

pub counted-drop : (files : Files) (cursors : List Cursor) (place : ℕ) → AreCounted files cursors
    → AreCounted files (drop place cursors)
counted-drop files cursors zero counted = counted
counted-drop files [] (suc place) counted = tt
counted-drop files (c ∷ cursors) (suc place) counted = counted-drop files cursors place counted.1

pub counted-push : (files : Files) (cursors : List Cursor) (cursor : Cursor) → AreCounted files cursors
    → IsCounted files cursor.name cursor.reader → AreCounted files (cursors ++ cursor ∷ [])
counted-push files [] cursor counted here = (here, tt)
counted-push files (c ∷ cursors) cursor counted here = (counted.0, counted-push files cursors cursor counted.1 here)

-- ---- one cursor moves

pub takes-set : (files : Files) (cursors : List Cursor) (place : ℕ) (old moved : Cursor) (s t : ℕ) (x y : Option ℕ)
    → slice_get cursors place ≡ Some old → Takes (left_of files old) (left_of files moved) s t x y
    → Takes (left_of_all files cursors) (left_of_all files (slice_set cursors place moved)) s t x y
takes-set files [] place old moved s t x y is takes = absurd cc
takes-set files (c ∷ cursors) zero old moved s t x y is takes =
    let same : old ≡ c = cc in
    takes_by (left_of files c) (left_of files moved) _ _ s t s t x y
    (subst (λ (z : Cursor). Takes (left_of files z) (left_of files moved) s t x y) same takes) (omega arith)
    (omega arith)
takes-set files (c ∷ cursors) (suc place) old moved s t x y is takes =
    takes_by (left_of_all files cursors) (left_of_all files (slice_set cursors place moved)) _ _ s t s t x y
    (takes-set files cursors place old moved s t x y is takes) (omega arith) (omega arith)

-- it can't go on: what is left of the cursors before it
pub takes-take : (files : Files) (cursors : List Cursor) (place : ℕ) (old : Cursor) (s t : ℕ) (x y : Option ℕ)
    → slice_get cursors place ≡ Some old → Takes (left_of files old) nothing s t x y
    → Takes (left_of_all files cursors) (left_of_all files (take place cursors)) s t x y
takes-take files [] place old s t x y is takes = absurd cc
takes-take files (c ∷ cursors) zero old s t x y is takes =
    let same : old ≡ c = cc in
    takes_by (left_of files c) nothing _ _ s t s t x y
    (subst (λ (z : Cursor). Takes (left_of files z) nothing s t x y) same takes) (omega arith) (omega arith)
takes-take files (c ∷ cursors) (suc place) old s t x y is takes =
    takes_by (left_of_all files cursors) (left_of_all files (take place cursors)) _ _ s t s t x y
    (takes-take files cursors place old s t x y is takes) (omega arith) (omega arith)

pub take-set : {X : Type 0} (xs : List X) (place : ℕ) (v : X) → take place (slice_set xs place v) ≡ take place xs
take-set xs zero v = refl
take-set [] (suc place) v = refl
take-set (x ∷ xs) (suc place) v = ap (λ rest. x ∷ rest) (take-set xs place v)

pub drop-set : {X : Type 0} (xs : List X) (place : ℕ) (v : X)
    → drop (suc place) (slice_set xs place v) ≡ drop (suc place) xs
drop-set [] place v = refl
drop-set (x ∷ xs) zero v = refl
drop-set (x ∷ xs) (suc place) v = drop-set xs place v

pub drop-at : {X : Type 0} (xs : List X) (place : ℕ) (x : X) → slice_get xs place ≡ Some x
    → drop place xs ≡ x ∷ drop (suc place) xs
drop-at [] place x is = absurd cc
drop-at (y ∷ xs) zero x is = let same : y ≡ x = cc in ap (λ z. z ∷ xs) same
drop-at (y ∷ xs) (suc place) x is = drop-at xs place x is

-- one behind the other in what follows a place
pub counted_here : (files : Files) (cursors : List Cursor) (place : ℕ) (cursor : Cursor)
    → slice_get cursors place ≡ Some cursor → AreCounted files (drop place cursors)
    → IsCounted files cursor.name cursor.reader
counted_here files cursors place cursor is counted =
    (subst (λ (cs : List Cursor). AreCounted files cs) (drop-at cursors place cursor is) counted).0

pub counted_drop : (files : Files) (cursors : List Cursor) (place : ℕ) (cursor moved : Cursor)
    → slice_get cursors place ≡ Some cursor → AreCounted files (drop place cursors)
    → AreCounted files (drop (place + 1) (slice_set cursors place moved))
counted_drop files cursors place cursor moved is counted =
    let one : suc place ≡ place + 1 = omega arith in
    subst (λ (n : ℕ). AreCounted files (drop n (slice_set cursors place moved))) one
    (subst (λ (cs : List Cursor). AreCounted files cs) (sym (drop-set cursors place moved))
    (subst (λ (cs : List Cursor). AreCounted files cs) (drop-at cursors place cursor is) counted).1)

-- the file of one cursor is read to its end
pub takes-drop : (files : Files) (cursors : List Cursor) (place : ℕ) (old moved : Cursor) (s t : ℕ) (x y : Option ℕ)
    → slice_get cursors place ≡ Some old → Takes (left_of files old) nothing s t x y
    → Takes (left_of_all files (drop place cursors))
    (left_of_all files (drop (place + 1) (slice_set cursors place moved))) s t x y
takes-drop files cursors place old moved s t x y is takes =
    let here = drop-at cursors place old is in
    let rest = drop-set cursors place moved in
    let one : suc place ≡ place + 1 = omega arith in
    subst (λ (n : ℕ). Takes (left_of_all files (drop place cursors))
    (left_of_all files (drop n (slice_set cursors place moved))) s t x y) one
    (subst (λ (cs : List Cursor). Takes (left_of_all files cs)
    (left_of_all files (drop (suc place) (slice_set cursors place moved))) s t x y) (sym here)
    (subst (λ (cs : List Cursor). Takes (left_of_all files (old ∷ drop (suc place) cursors)) (left_of_all files cs) s
    t x y) (sym rest)
    (takes_by (left_of files old) nothing _ _ s t s t x y takes (omega arith) (omega arith))))

-- or only a part of it, and then nothing more is read
pub takes-drop_all : (files : Files) (cursors : List Cursor) (place : ℕ) (old : Cursor) (s t : ℕ) (x y : Option ℕ)
    → slice_get cursors place ≡ Some old → Takes (left_of files old) nothing s t x y
    → Takes (left_of_all files (drop place cursors)) nothing s t x y
takes-drop_all files cursors place old s t x y is takes =
    let here = drop-at cursors place old is in
    subst (λ (cs : List Cursor). Takes (left_of_all files cs) nothing s t x y) (sym here)
    (takes_by (left_of files old) nothing _ _ s t s t x y takes (omega arith) (omega arith))

-- ---- files are opened

cost_same : (a b : Cost) → a.blocks ≡ b.blocks → a.bytes ≡ b.bytes → a ≡ b
cost_same a b blocks bytes =
    ap (λ (n : ℕ). record { blocks = n; bytes = a.bytes }) blocks
    ∙ ap (λ (n : ℕ). record { blocks = b.blocks; bytes = n }) bytes

pub left-push : (files : Files) (cursors : List Cursor) (cursor : Cursor)
    → left_of_all files (cursors ++ cursor ∷ []) ≡ both (left_of_all files cursors) (left_of files cursor)
left-push files [] cursor = cost_same _ _ (omega arith) (omega arith)
left-push files (c ∷ cursors) cursor =
    let rest = left-push files cursors cursor in
    let blocks = ap (λ (k : Cost). k.blocks) rest in
    let bytes = ap (λ (k : Cost). k.bytes) rest in
    cost_same _ _ (omega (arith, blocks)) (omega (arith, bytes))

-- a plan of which one file more was taken in
pub opened_more : (files : Files) (plan : List FileName) (at : ℕ) (cursors : List Cursor) (name : FileName)
    (cursor : Cursor) (x y z : Option ℕ) → slice_get plan at ≡ Some name
    → Takes (plan_cost files plan) (both (left_of_all files cursors) (plan_cost files (drop at plan))) 0 0 x y
    → Takes (file_cost (bytes_of files name)) (left_of files cursor) 0 0 y z
    → Takes (plan_cost files plan)
    (both (left_of_all files (cursors ++ cursor ∷ [])) (plan_cost files (drop (suc at) plan))) 0 0 x z
opened_more files plan at cursors name cursor x y z is before here =
    let rest = drop-at plan at name is in
    let pushed = left-push files cursors cursor in
    let blocks = ap (λ (k : Cost). k.blocks) pushed in
    let bytes = ap (λ (k : Cost). k.bytes) pushed in
    let same : plan_cost files (drop at plan) ≡ both (file_cost (bytes_of files name))
    (plan_cost files (drop (suc at) plan)) = ap (plan_cost files) rest in
    takes_then (plan_cost files plan) (both (left_of_all files cursors) (plan_cost files (drop at plan))) _ 0 0 0 x y
    z before
    (takes_by (file_cost (bytes_of files name)) (left_of files cursor) _ _ 0 0 0 0 y z here
    (omega (arith, ap (λ (k : Cost). k.blocks) same, blocks)) (omega (arith, ap (λ (k : Cost). k.bytes) same, bytes)))

-- or of which a file was left, whose rest costs so much
pub opened_odd_cost : (files : Files) (plan : List FileName) (at : ℕ) (cursors : List Cursor) (name : FileName)
    (odd : Cost) (x y z : Option ℕ) → slice_get plan at ≡ Some name
    → Takes (plan_cost files plan) (both (left_of_all files cursors) (plan_cost files (drop at plan))) 0 0 x y
    → Takes (file_cost (bytes_of files name)) odd 0 0 y z
    → Takes (plan_cost files plan) (both (left_of_all files cursors) odd) 0 0 x z
opened_odd_cost files plan at cursors name odd x y z is before here =
    let rest = drop-at plan at name is in
    let same : plan_cost files (drop at plan) ≡ both (file_cost (bytes_of files name))
    (plan_cost files (drop (suc at) plan)) = ap (plan_cost files) rest in
    takes_then (plan_cost files plan) (both (left_of_all files cursors) (plan_cost files (drop at plan))) _ 0 0 0 x y
    z before
    (takes_by (file_cost (bytes_of files name)) odd _ _ 0 0 0 0 y z here
    (omega (arith, ap (λ (k : Cost). k.blocks) same)) (omega (arith, ap (λ (k : Cost). k.bytes) same)))

-- ---- answers

pub err_each : {T E : Type 0} (r : Result T E) (P : Type 0) → P → IfErr r (λ _. P)
err_each (Ok x) P holds = tt
err_each (Err e) P holds = holds

-- nothing more is read
pub takes_all : (a b : Cost) (s t : ℕ) (x y : Option ℕ) → Takes a b s t x y → Takes a nothing s t x y
takes_all a b s t x y takes = takes_by a b a nothing s t s t x y takes (omega arith) (omega arith)
