-- Files that are faithful stay so where the log or the history grows, and where a faithful file is put beside them.
use Rattle.std.proofs.Common.{◌≡◌, ◌≢◌, ℕ, ◌<◌, ◌≤◌, List, [], ◌∷◌, ◌++◌, length, take, false, true, Option, Some, None}
use Rattle.std.proofs.Common.{refl, sym, ap, subst, ◌∙◌, inl, inr, ⊎_elim, arith}
use Rattle.std.specs.Prelude.{◌⊎◌, IsSome, is_some}
use Rattle.std.specs.List.{AllByRecursion}
use Rattle.std.specs.FinMap.{get}
use Rattle.std.proofs.Math.Seq.{take-length}
use Rattle.std.proofs.lemmas.Option.{none-some}
use Rattle.crash_disk.specs.Files.{Files}
use Rattle.crash_disk.proofs.NumberLaws.{by_names}
use Rattle.ls_base.specs.History.{History, state_at}
use Rattle.ls_base.specs.SyncLog.{SyncLog, IsSyncLog, line_of}
use Rattle.replica_store.specs.declared.file_name.FileName.{FileName}
use Rattle.replica_store.specs.CarriesOn.{IsLonger}
use Rattle.replica_store.specs.Chain.{LeadsBy}
use Rattle.replica_store.specs.Faithful.{MayFollow, IsFaithfulFile, IsFaithful, IsFaithfulToFront}
use Rattle.replica_store.specs.Listing.{path_of, IsFilePath, IsValid, IsIn}
use Rattle.replica_store.specs.Retained.{IsRetainedIn}
use Rattle.replica_store.proofs.LogLemmas.{line_of-longer, longer_by, recorded_by_line, recorded_longer, placed_longer}
use Rattle.replica_store.proofs.PathLemmas.{one_file_name}

-- the path of a valid name
pub is_path : (name : FileName) → IsValid name → IsFilePath (path_of name)
is_path name valid = record { level = name.level; min = name.min; max = name.max; valid = valid; is = refl }

-- what is there has bytes
pub there_with : {P : Type 0} (file : Option (List ℕ)) → IsSome file → ((bytes : List ℕ) → file ≡ Some bytes → P) → P
there_with None there f = let e : false ≡ true = there in absurd cc
there_with (Some bytes) there f = f bytes refl

pub is_there : (file : Option (List ℕ)) (bytes : List ℕ) → file ≡ Some bytes → IsSome file
is_there file bytes is = ap is_some is

pub same_bytes : (a b : List ℕ) → ◌≡◌ {A = Option (List ℕ)} (Some a) (Some b) → a ≡ b
same_bytes a b e = cc

-- ---- a file

follows_within : (min max s : ℕ) → MayFollow min max s → s ≤ max
follows_within min max s (inl first) = omega (arith, first.1)
follows_within min max s (inr later) = later.2

-- a faithful file is faithful to each log that agrees up to its last transaction
pub file_agrees : (history : History) (log other : SyncLog) (min max : ℕ) (bytes : List ℕ)
    → ((t : ℕ) → t ≤ max → line_of other t ≡ line_of log t) → IsFaithfulFile history log min max bytes
    → IsFaithfulFile history other min max bytes
file_agrees history log other min max bytes agree is = record {
  header = is.header;
  change = is.change;
  file = is.file;
  line = agree max (omega arith) ∙ is.line;
  leads = λ s follows.
      let turns = is.leads s follows in
      record {
        before = turns.before;
        recorded = recorded_by_line history other log s (agree s (follows_within min max s follows)) ∙ turns.recorded;
        fits = turns.fits;
        after = recorded_by_line history other log max (agree max (omega arith)) ∙ turns.after;
      };
}

-- and to each longer history
pub file_longer : (history more : History) (log : SyncLog) (min max : ℕ) (bytes : List ℕ)
    → IsFaithfulFile history log min max bytes → IsFaithfulFile (history ++ more) log min max bytes
file_longer history more log min max bytes is = record {
  header = is.header;
  change = is.change;
  file = is.file;
  line = is.line;
  leads = λ s follows.
      let turns = is.leads s follows in
      record {
        before = turns.before;
        recorded = recorded_longer history more log s turns.before turns.recorded;
        fits = turns.fits;
        after = recorded_longer history more log max _ turns.after;
      };
}

-- ---- files

pub faithful_longer : (files : Files) (history more : History) (log : SyncLog) → IsFaithful files history log
    → IsFaithful files (history ++ more) log
faithful_longer files history more log is = record {
  rising = is.rising;
  placed = placed_longer history more log is.placed;
  within = is.within;
  reached = is.reached;
  each = λ name bytes valid there. file_longer history more log name.min name.max bytes
      (is.each name bytes valid there);
}

pub front_longer : (files : Files) (history more : History) (log : SyncLog) (least : ℕ)
    → IsFaithfulToFront files history log least → IsFaithfulToFront files (history ++ more) log least
front_longer files history more log least is = record {
  lines = is.lines;
  enough = is.enough;
  within = is.within;
  faithful = faithful_longer files history more (take is.lines log) is.faithful;
}

-- files that read the same under the paths of names
pub in_same : (a b : Files) → ((q : List ℕ) → IsFilePath q → get b q ≡ get a q) → (name : FileName) → IsIn a name
    → IsIn b name
in_same a b same name is = record
    { valid = is.valid; there = ap is_some (same (path_of name) (is_path name is.valid)) ∙ is.there }

pub same_faithful : (a b : Files) (history : History) (log : SyncLog)
    → ((q : List ℕ) → IsFilePath q → get b q ≡ get a q) → IsFaithful a history log → IsFaithful b history log
same_faithful a b history log same is = record {
  rising = is.rising;
  placed = is.placed;
  within = λ name there. is.within name (in_same b a (λ q path. sym (same q path)) name there);
  reached = λ some. let last = is.reached some in (last.0, in_same a b same last.0 last.1, last.2);
  each = λ name bytes valid there. is.each name bytes valid (sym (same (path_of name) (is_path name valid)) ∙ there);
}

-- the whole log is a front of it
pub whole_front : (files : Files) (history : History) (log : SyncLog) (least : ℕ) → least ≤ length log
    → IsFaithful files history log → IsFaithfulToFront files history log least
whole_front files history log least below is = record {
  lines = length log;
  enough = below;
  within = omega arith;
  faithful = subst (λ (lines : SyncLog). IsFaithful files history lines) (sym (take-length log)) is;
}

-- Part of faithful files, with the last one among them, is faithful: each name that is there has what it had.
pub part_faithful : (old new : Files) (history : History) (log : SyncLog) → IsFaithful old history log
    → ((q : List ℕ) → IsFilePath q → (get new q ≡ get old q) ⊎ (get new q ≡ None))
    → (0 < length log → (name : FileName) × IsIn new name × (name.max ≡ length log)) → IsFaithful new history log
part_faithful old new history log is part reached =
    let before : (name : FileName) (bytes : List ℕ) → IsValid name → get new (path_of name) ≡ Some bytes
    → get old (path_of name) ≡ Some bytes
    = λ name bytes valid there.
    ⊎_elim (λ same. sym same ∙ there) (λ none. absurd (none-some bytes (sym none ∙ there)))
    (part (path_of name) (is_path name valid)) in
    record {
      rising = is.rising;
      placed = is.placed;
      within = λ name there. there_with (get new (path_of name)) there.there
          (λ bytes found. is.within name
          (record {
            valid = there.valid;
            there = is_there (get old (path_of name)) bytes
                (before name bytes there.valid found);
          }));
      reached = reached;
      each = λ name bytes valid there. is.each name bytes valid (before name bytes valid there);
    }

-- A file that is faithful to the later log is put beside files that are faithful to the log.
pub put_faithful : (old new : Files) (history : History) (log later : SyncLog) (name : FileName) (bytes : List ℕ)
    → IsFaithful old history log → IsLonger log later → IsSyncLog later
    → AllByRecursion (λ line. IsSome (state_at history line.place)) later → IsValid name → name.max ≤ length later
    → IsFaithfulFile history later name.min name.max bytes
    → (name.max ≡ length later) ⊎ (length later ≡ length log) → get new (path_of name) ≡ Some bytes
    → ((q : List ℕ) → IsFilePath q → q ≢ path_of name → get new q ≡ get old q) → IsFaithful new history later
put_faithful old new history log later name bytes is longer rising placed valid within fits newest put others =
    let here : IsIn new name = record { valid = valid; there = is_there (get new (path_of name)) bytes put } in
    let up = longer_by log later longer in
    record {
      rising = rising;
      placed = placed;
      within = λ other there. by_names (path_of other) (path_of name)
          (λ same. subst (λ (n : FileName). n.max ≤ length later)
          (sym (one_file_name other name there.valid valid same)) within)
          (λ apart.
          let low = is.within other (record {
            valid = there.valid;
            there = ap is_some
                (sym (others (path_of other) (is_path other there.valid) apart)) ∙ there.there;
          }) in omega
          (arith, low, up));
      reached = λ some. ⊎_elim (λ last. (name, here, last))
          (λ same_length.
          let last = is.reached (omega (arith, some, same_length)) in (
            last.0,
            by_names (path_of last.0) (path_of name)
                (λ same. subst (IsIn new) (sym (one_file_name last.0 name last.1.valid valid same)) here)
                (λ apart. record {
                  valid = last.1.valid;
                  there = ap is_some
                      (others (path_of last.0) (is_path last.0 last.1.valid) apart) ∙ last.1.there;
                }),
            last.2 ∙ sym same_length,
          )) newest;
      each = λ other found valid_other there. by_names (path_of other) (path_of name)
          (λ same.
          let one = one_file_name other name valid_other valid same in
          let is_found : bytes ≡ found = same_bytes bytes found (sym put ∙ ap (get new) (sym same) ∙ there) in
          subst (λ (n : FileName). IsFaithfulFile history later n.min n.max found) (sym one)
          (subst (λ (b : List ℕ). IsFaithfulFile history later name.min name.max b) is_found fits))
          (λ apart.
          let old_there = sym (others (path_of other) (is_path other valid_other) apart) ∙ there in
          let low = is.within other (record
          { valid = valid_other; there = is_there (get old (path_of other)) found old_there }) in
          file_agrees history log later other.min other.max found
          (λ t below. line_of-longer log later t longer (omega (arith, below, low)))
          (is.each other found valid_other old_there));
    }

-- ---- retained transactions

pub leads_more : (a b : FileName → Type 0) → ((name : FileName) → a name → b name)
    → (from : ℕ) (chain : List FileName) (t : ℕ) → LeadsBy a from chain t → LeadsBy b from chain t
leads_more a b more from [] t leads = leads
leads_more a b more from (name ∷ chain) t leads =
    (more name leads.0, leads.1, leads_more a b more name.max chain t leads.2)

-- a larger set of files retains what a smaller one does
pub retained_more : (a b : Files) (t : ℕ) → ((name : FileName) → IsIn a name → IsIn b name) → IsRetainedIn a t
    → IsRetainedIn b t
retained_more a b t more is = record
    { positive = is.positive; chain = is.chain; leads = leads_more (IsIn a) (IsIn b) more 0 is.chain t is.leads }
