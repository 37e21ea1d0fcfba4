-- The files of a run lead from one recorded state to another.
use Rattle.std.proofs.Common.{◌≡◌, ℕ, suc, ◌+◌, ◌-◌, ◌<◌, ◌≤◌, List, [], ◌∷◌, ◌++◌, length, Option, Some, None, refl}
use Rattle.std.proofs.Common.{sym, ap, subst, ◌∙◌, inl, inr, arith}
use Rattle.std.specs.Prelude.{map, unwrap_or, IsSome, ◌⊎◌}
use Rattle.std.specs.List.{AllByRecursion, Contains}
use Rattle.std.specs.FinMap.{get}
use Rattle.std.proofs.lemmas.Bool.{cases_lt}
use Rattle.crash_disk.specs.Files.{Files}
use Rattle.ls_base.specs.Change.{Change, IsApplicable, apply}
use Rattle.ls_base.specs.History.{History}
use Rattle.ls_base.specs.State.{State, empty_state}
use Rattle.ls_base.specs.SyncLog.{SyncLog, recorded_state}
use Rattle.ltx_format.specs.declared.file.LtxFile.{LtxFile}
use Rattle.ltx_format.specs.LtxFormat.{change_of}
use Rattle.ltx_format.proofs.Theorems.{same_value}
use Rattle.replica_store.specs.declared.file_name.FileName.{FileName}
use Rattle.replica_store.specs.Chain.{LeadsTo}
use Rattle.replica_store.specs.Faithful.{MayFollow, IsFaithfulFile, IsFaithful}
use Rattle.replica_store.specs.FileOf.{IsFileUnder, AreFilesUnder, HavePageSize}
use Rattle.replica_store.specs.Listing.{IsIn, IsValid, path_of, bytes_under}
use Rattle.compact_levels.specs.MergeLaws.{AreIn}
use Rattle.compact_levels.specs.Run.{IsGapless}
use Rattle.compact_levels.proofs.FaithLemmas.{LieOver, lies_over, lie_over_then, lie_over_beside}
use Rattle.compact_levels.proofs.PileLemmas.{gapless_up}

same_state : (a b : State) → ◌≡◌ {A = Option State} (Some a) (Some b) → a ≡ b
same_state a b e = cc

pub there_bytes : (o : Option (List ℕ)) → IsSome o → o ≡ Some (unwrap_or o [])
there_bytes None some = absurd cc
there_bytes (Some bytes) some = refl

follows_within : (min max to s : ℕ) → MayFollow min to s → s ≤ max → MayFollow min max s
follows_within min max to s (inl first) low = inl first
follows_within min max to s (inr (late, begins, within)) low = inr (late, begins, low)

begun_later : (min to s : ℕ) → MayFollow min to s → 0 < s → (1 < min) × (min ≤ s + 1) × (s ≤ to)
begun_later min to s (inl (one, none)) some = absurd (omega (arith, none, some))
begun_later min to s (inr late) some = late

module _ (files : Files) (history : History) (log : SyncLog) (faithful : IsFaithful files history log) where
  -- the file under a name tells the truth
  pub record IsTrue (name : FileName) (file : LtxFile) : Type 0 where
    pub own : IsFaithfulFile history log name.min name.max (bytes_under files (path_of name))
    pub header : own.header ≡ file.header
    pub change : own.change ≡ change_of file

  pub is_true : (name : FileName) (file : LtxFile) → IsIn files name → IsFileUnder files name file → IsTrue name file
  is_true name file there is =
      let bytes = bytes_under files (path_of name) in
      let own = faithful.each name bytes there.valid (there_bytes (get files (path_of name)) there.there) in
      let same = same_value bytes own.header file.header own.change (change_of file) own.file.file is.file in
      record { own = own; header = same.0; change = same.1 }

  -- the changes lead from the state of a transaction to that of another
  pub record Leads (size s to : ℕ) (changes : List Change) : Type 0 where
    pub before : State
    pub recorded : recorded_state history log s ≡ Some before
    pub after : State
    pub reached : recorded_state history log to ≡ Some after
    pub over : LieOver size before changes after

  pub one_leads : (name : FileName) (file : LtxFile) (size s : ℕ) → IsIn files name → IsFileUnder files name file
      → file.header.size ≡ size
      → MayFollow name.min name.max s → Leads size s name.max (change_of file ∷ [])
  one_leads name file size s there is sized follows =
      let true = is_true name file there is in
      let turns = true.own.leads s follows in
      let c = change_of file in
      let fits : IsApplicable turns.before c = subst (IsApplicable turns.before) true.change turns.fits in
      record {
        before = turns.before;
        recorded = turns.recorded;
        after = apply turns.before c;
        reached = turns.after ∙ ap (λ (d : Change). Some (apply turns.before d)) true.change;
        over = subst (λ (n : ℕ). LieOver n turns.before (c ∷ []) (apply turns.before c)) sized
            (lies_over turns.before c fits);
      }

  -- one behind the other
  leads_then : (size s mid to : ℕ) (c d : Change) (changes : List Change) → Leads size s mid (c ∷ [])
      → Leads size mid to (d ∷ changes) → Leads size s to (c ∷ d ∷ changes)
  leads_then size s mid to c d changes first rest =
      let same = same_state rest.before first.after (sym rest.recorded ∙ first.reached) in
      record {
        before = first.before;
        recorded = first.recorded;
        after = rest.after;
        reached = rest.reached;
        over = lie_over_then size first.before first.after rest.after c d changes first.over
            (subst (λ (s : State). LieOver size s (d ∷ changes) rest.after) same rest.over);
      }

  -- from a state between, to which the first leads from elsewhere
  leads_beside : (size s other mid to : ℕ) (c d : Change) (changes : List Change) → Leads size other mid (c ∷ [])
      → Leads size mid to (d ∷ changes) → Leads size s to (d ∷ changes) → Leads size s to (c ∷ d ∷ changes)
  leads_beside size s other mid to c d changes first rest direct =
      let same = same_state rest.before first.after (sym rest.recorded ∙ first.reached) in
      let reached = same_state rest.after direct.after (sym rest.reached ∙ direct.reached) in
      record {
        before = direct.before;
        recorded = direct.recorded;
        after = direct.after;
        reached = direct.reached;
        over = lie_over_beside size direct.before first.before first.after direct.after c d changes first.over
            (subst (λ (t : State). LieOver size first.after (d ∷ changes) t) reached
            (subst (λ (s : State). LieOver size s (d ∷ changes) rest.after) same rest.over)) direct.over;
      }

  -- ---- a gapless run

  pub gapless_leads : (level size to : ℕ) (first : FileName) (rest : List FileName) (file : LtxFile)
      (read : List LtxFile)
      → AreIn files (first ∷ rest) → IsGapless level first.max rest to
      → AreFilesUnder files (first ∷ rest) (file ∷ read)
      → HavePageSize size (file ∷ read) → (s : ℕ) → MayFollow first.min to s
      → Leads size s to (map change_of (file ∷ read))
  gapless_leads level size to first [] file [] there gapless (here, are) (own, sized) s follows =
      subst (λ (n : ℕ). Leads size s n (change_of file ∷ [])) gapless
      (one_leads first file size s (there first (0, omega arith, refl)) here own
      (subst (λ (n : ℕ). MayFollow first.min n s) (sym gapless) follows))
  gapless_leads level size to first [] file (other ∷ read) there gapless (here, are) sized s follows = absurd are
  gapless_leads level size to first (next ∷ rest) file [] there gapless (here, are) sized s follows = absurd are
  gapless_leads level size to first (next ∷ rest) file (other ∷ read) there (goes, gapless) (here, are) (own, sized) s
      follows =
      let in_first = there first (0, omega arith, refl) in
      let later : AreIn files (next ∷ rest) = λ name has. there name (suc has.0, omega (arith, has.1), has.2) in
      let up = gapless_up level next.max rest to gapless in
      let positive = in_first.valid.from_first in
      let order = in_first.valid.in_order in
      let next_order = (later next (0, omega arith, refl)).valid.in_order in
      let next_min = goes.begins in
      let behind = gapless_leads level size to next rest other read later gapless are sized first.max
      (inr (omega arith, omega arith, omega arith)) in
      elim (cases_lt first.max s) [
        | inl past ↦
            let own_follows = begun_later first.min to s follows (omega (arith, positive, order, past)) in
            leads_beside size s (first.min - 1) first.max to (change_of file) (change_of other) (map change_of read)
            (one_leads first file size (first.min - 1) in_first here own
            (inr (own_follows.0, omega (arith, positive), omega (arith, order))))
            behind
            (gapless_leads level size to next rest other read later gapless are sized s
            (inr (omega (arith, next_min, order, positive), omega (arith, next_min, past), own_follows.2)))
        | inr low ↦
            leads_then size s first.max to (change_of file) (change_of other) (map change_of read)
            (one_leads first file size s in_first here own (follows_within first.min first.max to s follows low)) behind
      ]

  -- ---- a chain

  pub chain_leads : (names : List FileName) (size to from : ℕ) (first : FileName) (rest : List FileName)
      (file : LtxFile)
      (read : List LtxFile) → AreIn files (first ∷ rest) → LeadsTo names from (first ∷ rest) to
      → AllByRecursion (λ name. 1 < name.min) rest → AreFilesUnder files (first ∷ rest) (file ∷ read)
      → HavePageSize size (file ∷ read) → MayFollow first.min first.max from
      → Leads size from to (map change_of (file ∷ read))
  chain_leads names size to from first [] file [] there (has, next, leads) later (here, are) (own, sized) follows =
      subst (λ (n : ℕ). Leads size from n (change_of file ∷ [])) leads
      (one_leads first file size from (there first (0, omega arith, refl)) here own follows)
  chain_leads names size to from first [] file (other ∷ read) there leads later (here, are) sized follows = absurd are
  chain_leads names size to from first (second ∷ rest) file [] there leads later (here, are) sized follows = absurd are
  chain_leads names size to from first (second ∷ rest) file (other ∷ read) there (has, next, leads) (late, later)
      (here, are)
      (own, sized) follows =
      let begins = leads.1.begins in
      let on = leads.1.goes_on in
      leads_then size from first.max to (change_of file) (change_of other) (map change_of read)
      (one_leads first file size from (there first (0, omega arith, refl)) here own follows)
      (chain_leads names size to first.max second rest other read
      (λ name has. there name (suc has.0, omega (arith, has.1), has.2)) leads later are sized
      (inr (late, begins, omega (arith, on))))
