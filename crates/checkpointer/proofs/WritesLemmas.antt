-- Pages written one after the other.
use Rattle.std.proofs.Common.{◌≡◌, ◌≢◌, ◌∙◌, ℕ, ◌+◌, ◌-◌, ◌*◌, ◌≤◌, ◌⊎◌, List, [], ◌∷◌, length, take, drop, Option}
use Rattle.std.proofs.Common.{Some, None, IsSome, unwrap_or, sym, ap, subst, refl, inl, inr, arith}
use Rattle.std.specs.List.{Contains}
use Rattle.std.specs.Ordering.{nat_cmp}
use Rattle.std.specs.BTreeMap.{BTreeMap, get, IsOrdered}
use Rattle.std.proofs.lemmas.Map.Views.{btree_map_get_iff}
use Rattle.std.proofs.lemmas.Cmp.{nat_cmp_total}
use Rattle.std.proofs.lemmas.List.Elements.{Contains-append_left, Contains-append_right, Contains-append_cases}
use Rattle.std.proofs.lemmas.List.Elements.{Contains-push, Contains-push_cases}
use Rattle.std.proofs.lemmas.Map.Lookups.{exact_unsigned}
use Rattle.crash_disk.specs.declared.event.Event.{Event}
use Rattle.crash_disk.specs.declared.event.Event.TheVariants.{Wrote}
use Rattle.crash_disk.specs.Files.{file_at, IsThere}
use Rattle.crash_disk.specs.FileState.{SomeOf}
use Rattle.crash_disk.specs.Told.{Told, IfTold}
use Rattle.crash_disk.specs.GoesOn.{GoesOn}
use Rattle.crash_disk.proofs.FileLaws.{file_at-Wrote-here, file_at-Wrote-other}
use Rattle.crash_disk.proofs.GoesOnLemmas.{goes_on-same, goes_on-then, goes_on-weaker}
use Rattle.checkpointer.specs.PairState.{bytes_at}
use Rattle.checkpointer.specs.Copying.{WritesPage, MayWritePage, Written, after_writes, EachIs, IsCopiedNumber}
use Rattle.checkpointer.specs.Copying.{IsPartOfPage, IsPageOf, AreWithin, CopiesPages, MayCopyPages}

-- ---- what the writes leave alone

module _ (db wal : List ℕ) (apart : db ≢ wal) (size : ℕ) (x : List Event) where
  pub log_kept : (writes : List Written) → bytes_at (after_writes db size writes x) wal ≡ bytes_at x wal
  log_kept [] = refl
  log_kept (w ∷ writes) =
      ap (λ (file : Option (List ℕ)). unwrap_or file [])
      (file_at-Wrote-other (after_writes db size writes x) db ((w.number - 1) * size) w.bytes wal
      (λ same. apart (sym same)))
      ∙ log_kept writes

there_wrote : (x : List Event) (db : List ℕ) (at : ℕ) (bytes : List ℕ) (file : Option (List ℕ)) → file_at x db ≡ file
    → IsSome file → IsThere (Wrote db at bytes ∷ x) db
there_wrote x db at bytes None e some = absurd cc
there_wrote x db at bytes (Some old) e some = record
    { there = subst (λ (file : Option (List ℕ)). IsSome file) (sym (file_at-Wrote-here x db at bytes old e)) refl }

pub still_there_wrote : (x : List Event) (db : List ℕ) (at : ℕ) (bytes : List ℕ) → IsThere x db
    → IsThere (Wrote db at bytes ∷ x) db
still_there_wrote x db at bytes is = there_wrote x db at bytes (file_at x db) refl is.there

pub still_there : (db : List ℕ) (size : ℕ) (x : List Event) (writes : List Written) → IsThere x db
    → IsThere (after_writes db size writes x) db
still_there db size x [] is = is
still_there db size x (w ∷ writes) is = still_there_wrote (after_writes db size writes x) db ((w.number - 1) * size)
    w.bytes (still_there db size x writes is)

-- ---- the loop over the pages

-- the entries that are left are the map's
abbrev pub AreRest : BTreeMap ℕ ℕ → List (ℕ × ℕ) → Type 0
AreRest pages rest = (number at : ℕ) → Contains rest (number, at) → get nat_cmp pages number ≡ Some at

-- the pages that aren't left were written
pub record CopiesSome (db wal : List ℕ) (size commit : ℕ) (pages : BTreeMap ℕ ℕ) (rest : List (ℕ × ℕ))
    (old new : List Event) : Type 0 where
  pub writes : List Written
  pub is : new ≡ after_writes db size writes old
  pub each : EachIs (IsPageOf size commit pages (bytes_at old wal)) writes
  pub all : (number at : ℕ) → get nat_cmp pages number ≡ Some at → IsCopiedNumber size commit number
      → SomeOf (λ w. w.number ≡ number) writes ⊎ Contains rest (number, at)

pub each_weaker : (P Q : Written → Type 0) (writes : List Written) → ((w : Written) → P w → Q w) → EachIs P writes
    → EachIs Q writes
each_weaker P Q [] implies each = tt
each_weaker P Q (w ∷ writes) implies each = (implies w each.0, each_weaker P Q writes implies each.1)

module _ (db wal : List ℕ) (size commit : ℕ) (pages : BTreeMap ℕ ℕ) where
  pub rest_begins : (rest : List (ℕ × ℕ)) → IsOrdered nat_cmp pages → rest ≡ pages.entries → AreRest pages rest
  rest_begins rest ordered is number at among =
      (btree_map_get_iff nat_cmp_total exact_unsigned pages ordered number at).1
      (subst (λ (es : List (ℕ × ℕ)). Contains es (number, at)) is among)

  pub copy_begins : (rest : List (ℕ × ℕ)) (old now : Told) → IsOrdered nat_cmp pages → rest ≡ pages.entries → now ≡ old
      → GoesOn old now (CopiesSome db wal size commit pages rest)
  copy_begins rest old now ordered is same = goes_on-same old now (CopiesSome db wal size commit pages rest) same
      (λ x. record {
        writes = [];
        is = refl;
        each = tt;
        all = λ number at found copied.
            inr (subst (λ (es : List (ℕ × ℕ)). Contains es (number, at)) (sym is)
            ((btree_map_get_iff nat_cmp_total exact_unsigned pages ordered number at).0 found));
      })

-- what is left is one entry and the rest
first_or_rest : (e x : ℕ × ℕ) (rest : List (ℕ × ℕ)) → Contains (e ∷ rest) x → (e ≡ x) ⊎ Contains rest x
first_or_rest e x rest among =
    elim (Contains-append_cases (e ∷ []) rest x among) [
      | inl one ↦ elim (Contains-push_cases [] e x one) [ inl none ↦ absurd (omega (arith, none.1)) | inr is ↦ inl is ]
      | inr some ↦ inr some
    ]

among_rest : (e x : ℕ × ℕ) (rest : List (ℕ × ℕ)) → Contains rest x → Contains (e ∷ rest) x
among_rest e x rest among = Contains-append_right (e ∷ []) rest x among

among_first : (e : ℕ × ℕ) (rest : List (ℕ × ℕ)) → Contains (e ∷ rest) e
among_first e rest = Contains-append_left (e ∷ []) rest e (Contains-push [] e)

module _ (pages : BTreeMap ℕ ℕ) (left rest : List (ℕ × ℕ)) (number at : ℕ) (next : left ≡ (number, at) ∷ rest)
    (are : AreRest pages left) where
  pub entry_found : get nat_cmp pages number ≡ Some at
  entry_found = are number at (subst (λ (es : List (ℕ × ℕ)). Contains es (number, at)) (sym next)
      (among_first (number, at) rest))

  pub rest_next : AreRest pages rest
  rest_next n a among = are n a (subst (λ (es : List (ℕ × ℕ)). Contains es (n, a)) (sym next)
      (among_rest (number, at) (n, a) rest among))

  which : (n a : ℕ) → Contains left (n, a) → (number ≡ n) ⊎ Contains rest (n, a)
  which n a among =
      elim (first_or_rest (number, at) (n, a) rest (subst (λ (es : List (ℕ × ℕ)). Contains es (n, a)) next among)) [
        | inl is ↦ inl (ap (λ (e : ℕ × ℕ). e.0) is)
        | inr some ↦ inr some
      ]

  module _ (db wal : List ℕ) (size commit : ℕ) where
    abbrev Some_ : List (ℕ × ℕ) → List Event → List Event → Type 0
    Some_ es = CopiesSome db wal size commit pages es

    -- a page that isn't copied
    pub skipped : (old now : Told) → (IsCopiedNumber size commit number → ⊥) → GoesOn old now (Some_ left)
        → GoesOn old now (Some_ rest)
    skipped old now not goes = goes_on-weaker old now (Some_ left) (Some_ rest) goes (λ x y c. record {
      writes = c.writes;
      is = c.is;
      each = c.each;
      all = λ n a found copied.
          elim (c.all n a found copied) [
            | inl written ↦ inl written
            | inr among ↦ elim (which n a among) [
              | inl same ↦ absurd (not (subst (λ (k : ℕ). IsCopiedNumber size commit k) (sym same) copied))
              | inr
                  some ↦ inr some
            ]
          ];
    })

    module _ (apart : db ≢ wal) (copied : IsCopiedNumber size commit number) where
      -- the page that is copied next
      pub copied_next : (old mid now : Told) → GoesOn old mid (Some_ left)
          → GoesOn mid now (WritesPage db wal size number at) → GoesOn old now (Some_ rest)
      copied_next old mid now goes wrote = goes_on-then old mid now (Some_ left) (WritesPage db wal size number at)
          (Some_ rest) goes wrote
          (λ x y z c w.
          let log : bytes_at y wal ≡ bytes_at x wal = ap (λ (es : List Event). bytes_at es wal) c.is
          ∙ log_kept db wal apart size x c.writes in
          let one : Written = record { number = number; bytes = w.bytes } in
          record {
            writes = one ∷ c.writes;
            is = w.is ∙ ap (λ (es : List Event). Wrote db ((number - 1) * size) w.bytes ∷ es) c.is;
            each = (
              record {
                copied = copied;
                at = at;
                found = entry_found;
                long = w.long;
                page =
                    subst (λ (bytes : List ℕ). at + size ≤ length bytes → w.bytes ≡ take size (drop at bytes)) log
                    w.page;
              },
              c.each,
            );
            all = λ n a found is.
                elim (c.all n a found is) [
                  | inl written ↦ inl (inr written)
                  | inr among ↦ elim (which n a among) [ inl same ↦ inl (inl same) | inr some ↦ inr some ]
                ];
          })

      -- or maybe in part
      pub copied_part : (old mid now : Told) → GoesOn old mid (Some_ left)
          → GoesOn mid now (MayWritePage db size number) → GoesOn old now (MayCopyPages db size commit pages)
      copied_part old mid now goes wrote = goes_on-then old mid now (Some_ left) (MayWritePage db size number)
          (MayCopyPages db size commit pages) goes wrote
          (λ x y z c w. part x y z c w)
        where
          parts : (x y : List Event) (c : Some_ left x y) → EachIs (IsPartOfPage size commit pages) c.writes
          parts x y c = each_weaker (IsPageOf size commit pages (bytes_at x wal)) (IsPartOfPage size commit pages)
              c.writes
              (λ w is. record { copied = is.copied; at = is.at; found = is.found; within = omega (arith, is.long) })
              c.each

          part : (x y z : List Event) → Some_ left x y → MayWritePage db size number y z
              → MayCopyPages db size commit pages x z
          part x y z c (inl same) = record { writes = c.writes; is = same ∙ c.is; each = parts x y c }
          part x y z c (inr some) = record {
            writes = (record { number = number; bytes = some.0 }) ∷ c.writes;
            is = some.2 ∙ ap (λ (es : List Event). Wrote db ((number - 1) * size) some.0 ∷ es) c.is;
            each = (record { copied = copied; at = at; found = entry_found; within = some.1 }, parts x y c);
          }

      -- the page that is asked for next stands in the log
      pub next_within : (old mid : Told) → GoesOn old mid (Some_ left) → (x : List Event) → old ≡ Some x
          → AreWithin size pages (bytes_at x wal)
          → (y : List Event) × (mid ≡ Some y) × (at + size ≤ length (bytes_at y wal))
      next_within old mid goes x told within =
          let went = goes.told x told in
          let c = went.2 in
          let log : bytes_at went.0 wal ≡ bytes_at x wal = ap (λ (es : List Event). bytes_at es wal) c.is
          ∙ log_kept db wal apart size x c.writes in (
            went.0,
            went.1,
            subst (λ (bytes : List ℕ). at + size ≤ length bytes) (sym log)
                (within number at entry_found),
          )

module _ (db wal : List ℕ) (size commit : ℕ) (pages : BTreeMap ℕ ℕ) (left : List (ℕ × ℕ)) where
  pub there_now : (old mid : Told) → GoesOn old mid (CopiesSome db wal size commit pages left)
      → IfTold old (λ x. IsThere x db) → IfTold mid (λ x. IsThere x db)
  there_now None mid goes there events told = let none : ◌≡◌ {A = Told} None (Some events) = sym (goes.silent refl)
      ∙ told in absurd cc
  there_now (Some x) mid goes there events told =
      let went = goes.told x refl in
      let both : ◌≡◌ {A = Told} (Some went.0) (Some events) = sym went.1 ∙ told in
      let same : went.0 ≡ events = cc in
      subst (λ (es : List Event). IsThere es db) (sym went.2.is ∙ same)
      (still_there db size x went.2.writes (there x refl))

  pub copy_ends : (old now : Told) → left ≡ [] → GoesOn old now (CopiesSome db wal size commit pages left)
      → GoesOn old now (CopiesPages db wal size commit pages)
  copy_ends old now none goes = goes_on-weaker old now (CopiesSome db wal size commit pages left)
      (CopiesPages db wal size commit pages) goes (λ x y c. record {
        writes = c.writes;
        is = c.is;
        each = c.each;
        all = λ n a found copied.
            elim (c.all n a found copied) [
              | inl written ↦ written
              | inr among ↦ let empty : Contains [] (n, a) = subst (λ (es : List (ℕ × ℕ)). Contains es (n, a)) none
                  among
                  in absurd (omega (arith, empty.1))
            ];
      })
