-- What the steps of writing an output leave at each name.
use Rattle.std.proofs.Common.{◌≡◌, ◌≢◌, ℕ, List, [], ◌∷◌, length, Option, Some, None, sym, ap, ◌∙◌, inl, inr, arith}
use Rattle.std.specs.Prelude.{codes, ◌⊎◌}
use Rattle.std.proofs.lemmas.List.{length-append}
use Rattle.crash_disk.specs.declared.event.Event.{Event}
use Rattle.crash_disk.specs.declared.event.Event.TheVariants.{Created, Synced, Removed}
use Rattle.crash_disk.specs.Files.{file_at}
use Rattle.crash_disk.proofs.FileLaws.{file_at-Created-here, file_at-Created-other, file_at-Synced, file_at-NamesSynced}
use Rattle.crash_disk.proofs.FileLaws.{file_at-Renamed-to, file_at-Renamed-from, file_at-Renamed-other}
use Rattle.crash_disk.proofs.FileLaws.{file_at-Removed-here, file_at-Removed-other}
use Rattle.restore_apply.specs.Staging.{temporary_name, MayBegin, Fills, Names, MayName, Began, Synchronized, Named}
use Rattle.restore_apply.specs.Staging.{Settles, MaySettle, Left, Cleared, WritesFile, MayWriteFile, LeavesUnwritten}
use Rattle.restore_apply.specs.Staging.{LeavesNoTrace, Lacks}
use Rattle.restore_apply.proofs.StopLemmas.{stop_may_name, stop_settled, settled_stays, stop_cleared, none_begun}
use Rattle.restore_apply.proofs.StopLemmas.{none_cleared}
use Rattle.restore_apply.proofs.StagingLemmas.{file_at-appended-here, file_at-appended-other}

-- the temporary name is another one
pub temporary_apart : (name : List ℕ) → temporary_name name ≢ name
temporary_apart name same = absurd (omega (arith, length-append name (codes ".litestream-tmp"), ap length same))

name_apart : (name : List ℕ) → name ≢ temporary_name name
name_apart name same = temporary_apart name (sym same)

-- a filled file has its bytes
filled_here : (name bytes : List ℕ) (x y : List Event) → Fills name bytes x y → file_at y name ≡ Some bytes
filled_here name bytes x y fills =
    ap (λ (es : List Event). file_at es name) fills.record_is
    ∙ file_at-appended-here name fills.pieces (Created name ∷ x) [] (file_at-Created-here x name)
    ∙ ap (λ b. Some b) fills.whole

filled_other : (name bytes q : List ℕ) (x y : List Event) → Fills name bytes x y → q ≢ name → file_at y q ≡ file_at x q
filled_other name bytes q x y fills apart =
    ap (λ (es : List Event). file_at es q) fills.record_is ∙ file_at-appended-other name q fills.pieces
    (Created name ∷ x) apart ∙ file_at-Created-other x name q apart

begun_other : (name q : List ℕ) (x y : List Event) → MayBegin name x y → q ≢ name → file_at y q ≡ file_at x q
begun_other name q x y (inl same) apart = ap (λ (es : List Event). file_at es q) same
begun_other name q x y (inr begins) apart =
    ap (λ (es : List Event). file_at es q) begins.record_is ∙ file_at-appended-other name q begins.pieces
    (Created name ∷ x) apart ∙ file_at-Created-other x name q apart

synced_here : (name bytes : List ℕ) (x y : List Event) → Fills name bytes x y
    → file_at (Synced name ∷ y) name ≡ Some bytes
synced_here name bytes x y fills = file_at-Synced y name name ∙ filled_here name bytes x y fills

-- once it was renamed, the bytes stand under the name
named_here : (temporary name bytes : List ℕ) (x z : List Event) → Names temporary name bytes x z
    → file_at z name ≡ Some bytes
named_here temporary name bytes x z names =
    ap (λ (es : List Event). file_at es name) names.record_is
    ∙ file_at-Renamed-to (Synced temporary ∷ names.filled) temporary name bytes
    (synced_here temporary bytes x names.filled names.fills)

named_temporary : (temporary name bytes : List ℕ) (x z : List Event) → temporary ≢ name
    → Names temporary name bytes x z → file_at z temporary ≡ None
named_temporary temporary name bytes x z apart names =
    ap (λ (es : List Event). file_at es temporary) names.record_is
    ∙ file_at-Renamed-from (Synced temporary ∷ names.filled) temporary name bytes apart
    (synced_here temporary bytes x names.filled names.fills)

named_other : (temporary name bytes q : List ℕ) (x z : List Event) → q ≢ name → q ≢ temporary
    → Names temporary name bytes x z → file_at z q ≡ file_at x q
named_other temporary name bytes q x z apart apart_too names =
    ap (λ (es : List Event). file_at es q) names.record_is ∙ file_at-Renamed-other (Synced temporary ∷ names.filled)
    temporary name q apart_too apart
    ∙ file_at-Synced names.filled temporary q ∙ filled_other temporary bytes q x names.filled names.fills apart_too

-- a settled output is written
pub writes-from_settles : (name bytes : List ℕ) (x y : List Event) → Settles name bytes x y → WritesFile name bytes x y
writes-from_settles name bytes x y settles =
    let at : (q : List ℕ) → file_at y q ≡ file_at settles.named q = λ q. ap (λ (es : List Event). file_at es q)
    settles.record_is ∙ file_at-NamesSynced settles.named q in
    let temporary = temporary_name name in
    record {
      output = at name ∙ named_here temporary name bytes x settles.named settles.names;
      temporary = at temporary ∙ named_temporary temporary name bytes x settles.named (temporary_apart name)
          settles.names;
      others = λ q apart apart_too. at q ∙ named_other temporary name bytes q x settles.named apart apart_too
          settles.names;
      at_a_stop = λ nothing. stop_settled temporary name bytes x (name_apart name) nothing y settles.named
          settles.names settles.record_is;
      stays = λ nothing. settled_stays temporary name bytes x (name_apart name) nothing y settles.named settles.names
          settles.record_is;
    }

may_write-from_may_name : (name bytes : List ℕ) (x y : List Event) → MayName (temporary_name name) name bytes x y
    → MayWriteFile name bytes x y
may_write-from_may_name name bytes x y (Began begun) = record {
  output = inl (begun_other (temporary_name name) name x y begun (λ same. temporary_apart name (sym same)));
  others = λ q apart apart_too. begun_other (temporary_name name) q x y begun apart_too;
  at_a_stop = λ nothing. stop_may_name (temporary_name name) name bytes x (name_apart name) nothing y (Began begun);
}
may_write-from_may_name name bytes x y (Synchronized filled fills is) =
    let at : (q : List ℕ) → q ≢ temporary_name name → file_at y q ≡ file_at x q
    = λ q apart. ap (λ (es : List Event). file_at es q) is ∙ file_at-Synced filled (temporary_name name) q
    ∙ filled_other (temporary_name name) bytes q x filled fills apart in
    record {
      output = inl (at name (λ same. temporary_apart name (sym same)));
      others = λ q apart apart_too. at q apart_too;
      at_a_stop = λ nothing. stop_may_name (temporary_name name) name bytes x (name_apart name) nothing y
          (Synchronized filled fills is);
    }
may_write-from_may_name name bytes x y (Named names) = record {
  output = inr (named_here (temporary_name name) name bytes x y names);
  others = λ q apart apart_too. named_other (temporary_name name) name bytes q x y apart apart_too names;
  at_a_stop = λ nothing. stop_may_name (temporary_name name) name bytes x (name_apart name) nothing y (Named names);
}

either_way : {a b c d : Option (List ℕ)} → a ≡ b → (b ≡ c) ⊎ (b ≡ d) → (a ≡ c) ⊎ (a ≡ d)
either_way e (inl f) = inl (e ∙ f)
either_way e (inr f) = inr (e ∙ f)

-- whatever was done, the output is as it was or whole
pub may_write-from_may_settle : (name bytes : List ℕ) (x y : List Event) → MaySettle name bytes x y
    → MayWriteFile name bytes x y
may_write-from_may_settle name bytes x y (Left may) = may_write-from_may_name name bytes x y may
may_write-from_may_settle name bytes x y (Cleared left may is) =
    let before = may_write-from_may_name name bytes x left may in
    let at : (q : List ℕ) → q ≢ temporary_name name → file_at y q ≡ file_at left q
    = λ q apart. ap (λ (es : List Event). file_at es q) is ∙ file_at-Removed-other left (temporary_name name) q apart in
    let name_at = at name (λ same. temporary_apart name (sym same)) in
    record {
      output = either_way name_at before.output;
      others = λ q apart apart_too. at q apart_too ∙ before.others q apart apart_too;
      at_a_stop = λ nothing. stop_cleared (temporary_name name) name bytes x (name_apart name) nothing y left may is;
    }

-- ---- where nothing gets the name

-- the file was begun at most
pub unwritten_begun : (name : List ℕ) (x y : List Event) → file_at x name ≡ None → MayBegin (temporary_name name) x y
    → LeavesUnwritten name x y
unwritten_begun name x y absent begun = record {
  output = begun_other (temporary_name name) name x y begun (name_apart name) ∙ absent;
  others = λ q apart apart_too. begun_other (temporary_name name) q x y begun apart_too;
  at_a_stop = λ nothing. none_begun (temporary_name name) name [] x (name_apart name) nothing y begun;
}

-- and then removed
pub no_trace : (name : List ℕ) (x left y : List Event) → file_at x name ≡ None → MayBegin (temporary_name name) x left
    → y ≡ Removed (temporary_name name) ∷ left → LeavesNoTrace name x y
no_trace name x left y absent begun is =
    let before = unwritten_begun name x left absent begun in
    let at : (q : List ℕ) → q ≢ temporary_name name → file_at y q ≡ file_at left q
    = λ q apart. ap (λ (es : List Event). file_at es q) is ∙ file_at-Removed-other left (temporary_name name) q apart in
    record {
      unwritten = record {
        output = at name (name_apart name) ∙ before.output;
        others = λ q apart apart_too. at q apart_too ∙ before.others q apart apart_too;
        at_a_stop = λ nothing. none_cleared (temporary_name name) name [] x (name_apart name) nothing y left begun is;
      };
      temporary =
          ap (λ (es : List Event). file_at es (temporary_name name)) is
          ∙ file_at-Removed-here left (temporary_name name);
    }

-- the temporary file is gone once it was removed
pub lacks_removed : (name : List ℕ) (x left y : List Event) → y ≡ Removed name ∷ left → Lacks name x y
lacks_removed name x left y is =
    ap (λ (es : List Event). file_at es name) is ∙ file_at-Removed-here left name

-- or renamed
pub lacks_named : (name bytes : List ℕ) (x y : List Event) → Names (temporary_name name) name bytes x y
    → Lacks (temporary_name name) x y
lacks_named name bytes x y names = named_temporary (temporary_name name) name bytes x y (temporary_apart name) names
