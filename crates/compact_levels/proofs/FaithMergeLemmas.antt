-- The merge of a run's files that tell the truth tells it too.
use Rattle.std.proofs.Common.{◌≡◌, ℕ, zero, suc, ◌+◌, ◌-◌, ◌<◌, ◌≤◌, List, [], ◌∷◌, ◌++◌, length, Option, Some, None}
use Rattle.std.proofs.Common.{refl, sym, ap, subst, ◌∙◌, inl, inr, append_assoc, arith}
use Rattle.std.specs.Prelude.{map, IsSome, ◌⊎◌}
use Rattle.std.specs.List.{AllByRecursion, Contains}
use Rattle.std.proofs.lemmas.List.Elements.{Contains-append_left, Contains-append_right, Contains-push}
use Rattle.crash_disk.specs.Files.{Files}
use Rattle.ls_base.specs.declared.line.Line.{Line}
use Rattle.ls_base.specs.declared.place.Place.{Place}
use Rattle.ls_base.specs.Change.{Change, apply}
use Rattle.ls_base.specs.History.{History}
use Rattle.ls_base.specs.State.{State}
use Rattle.ls_base.specs.SyncLog.{SyncLog, line_of, recorded_state}
use Rattle.ltx_format.specs.declared.file.LtxFile.{LtxFile}
use Rattle.ltx_format.specs.declared.header.LtxHeader.{LtxHeader}
use Rattle.ltx_format.specs.LtxFormat.{change_of}
use Rattle.page_cursors.specs.PlanFiles.{ArePlanFiles}
use Rattle.replica_store.specs.declared.file_name.FileName.{FileName}
use Rattle.replica_store.specs.Chain.{BeginsOnce, LeadsTo}
use Rattle.replica_store.specs.Faithful.{MayFollow, IsFaithful, IsFaithfulFile, TurnsInto}
use Rattle.replica_store.specs.FileOf.{AreFilesUnder, HavePageSize, IsFileUnder}
use Rattle.replica_store.specs.Listing.{IsIn, IsValid}
use Rattle.replica_store.specs.NameText.{IsName}
use Rattle.replica_store.specs.PutFiles.{IsMergedFile}
use Rattle.restore_plan.specs.ChosenChain.{IsChosenBetween}
use Rattle.restore_plan.proofs.ChainLemmas.{chosen_leads, begins_once}
use Rattle.compact_levels.specs.Merged.{IsMergeOf, IsMerged, IsNameOf, Merges}
use Rattle.compact_levels.specs.MergeLaws.{AreIn, MergesKeepFaith}
use Rattle.compact_levels.specs.Run.{IsGapless, IsPile, IsRunOf}
use Rattle.compact_levels.specs.declared.run.Run.{Run}
use Rattle.compact_levels.proofs.FaithLemmas.{LieOver, merge_fits, merge_makes}
use Rattle.compact_levels.proofs.FaithRunLemmas.{IsTrue, Leads, chain_leads, gapless_leads, is_true}
use Rattle.compact_levels.proofs.MergeLemmas.{last_file, last_same}
use Rattle.compact_levels.proofs.RunLemmas.{nine_or_not}

-- ---- the files of a run are those of its names

pile_in : (files : Files) (names : List FileName) (level after : ℕ) (first : FileName) (rest : List FileName) (to : ℕ)
    → AreIn files names → IsPile names level after first rest to → AreIn files (first ∷ rest)
pile_in files names level after first rest to all pile name has =
    all name (subst (λ (list : List FileName). Contains list name)
    (sym (pile.parts ∙ append_assoc pile.before (first ∷ rest) pile.behind))
    (Contains-append_right pile.before (first ∷ (rest ++ pile.behind)) name
    (Contains-append_left (first ∷ rest) pile.behind name has)))

head_or_tail : (x y : FileName) (xs : List FileName) → Contains (x ∷ xs) y → (x ≡ y) ⊎ Contains xs y
head_or_tail x y xs (zero, low, is) = inl is
head_or_tail x y xs (suc k, low, is) = inr (k, omega (arith, low), is)

leading_in : (files : Files) (names : List FileName) (from : ℕ) (chain : List FileName) (to : ℕ) → AreIn files names
    → LeadsTo names from chain to → AreIn files chain
leading_in files names from [] to all leads name has = absurd (omega (arith, has.1))
leading_in files names from (first ∷ chain) to all (there, next, leads) name has = elim
    (head_or_tail first name chain has) [
      | inl is ↦ subst (IsIn files) is (all first there)
      | inr later ↦ leading_in files names first.max chain to all leads name later
    ]

-- the last file of a run ends with it
gapless_end : (level from : ℕ) (first : FileName) (rest : List FileName) (to : ℕ) → IsGapless level first.max rest to
    → (before : List FileName) × (last : FileName) × (first ∷ rest ≡ before ++ last ∷ []) × (last.max ≡ to)
gapless_end level from first [] to gapless = ([], first, refl, gapless)
gapless_end level from first (next ∷ rest) to (goes, gapless) =
    let end = gapless_end level from next rest to gapless in
    (first ∷ end.0, end.1, ap (λ (ns : List FileName). first ∷ ns) end.2, end.3)

chain_end : (names : List FileName) (t from : ℕ) (first : FileName) (rest : List FileName) (to : ℕ)
    → IsChosenBetween names t from (first ∷ rest) to
    → (before : List FileName) × (last : FileName) × (first ∷ rest ≡ before ++ last ∷ []) × (last.max ≡ to)
chain_end names t from first [] to (best, is) = ([], first, refl, is)
chain_end names t from first (next ∷ rest) to (best, chosen) =
    let end = chain_end names t first.max next rest to chosen in
    (first ∷ end.0, end.1, ap (λ (ns : List FileName). first ∷ ns) end.2, end.3)

abbrev pub Ends : FileName → List FileName → ℕ → Type 0
Ends first rest to = (before : List FileName) × (last : FileName) × (first ∷ rest ≡ before ++ last ∷ [])
    × (last.max ≡ to)

pub run_end : (names : List FileName) (run : Run) (first : FileName) (rest : List FileName)
    → IsRunOf names run first rest
    → Ends first rest run.max
run_end names run first rest is = elim (nine_or_not run.level is.level) [
  | inl nine ↦ chain_end names run.max 0 first rest run.max (is.whole nine).chain
  | inr other ↦ gapless_end (run.level - 1) 0 first rest run.max (is.piled other).gapless
]

pub run_in : (files : Files) (names : List FileName) (run : Run) (first : FileName) (rest : List FileName)
    → AreIn files names
    → IsRunOf names run first rest → AreIn files (first ∷ rest)
run_in files names run first rest all is = elim (nine_or_not run.level is.level) [
  | inl nine ↦ leading_in files names 0 (first ∷ rest) run.max all
      (chosen_leads names run.max 0 (first ∷ rest) run.max (is.whole nine).chain)
  | inr other ↦ pile_in files names (run.level - 1) is.after first rest run.max all (is.piled other)
]

-- ---- the merge

from_nothing : (min max s first : ℕ) → first ≡ min → first ≡ 1 → MayFollow min max s → s ≡ 0
from_nothing min max s first is one (inl (same, none)) = none
from_nothing min max s first is one (inr (late, begins, within)) = absurd (omega (arith, is, one, late))

sized_end : (size : ℕ) (before : List LtxFile) (last : LtxFile) → HavePageSize size (before ++ last ∷ [])
    → last.header.size ≡ size
sized_end size [] last sized = sized.0
sized_end size (file ∷ before) last sized = sized_end size before last sized.1

last_sized : (size : ℕ) (read before : List LtxFile) (last : LtxFile) → HavePageSize size read
    → read ≡ before ++ last ∷ []
    → last.header.size ≡ size
last_sized size read before last sized is = sized_end size before last (subst (HavePageSize size) is sized)

valid_name : (run : Run) (name : FileName) → IsName run.level run.min run.max → IsNameOf run name → IsValid name
valid_name run name valid named =
    subst (λ (l : ℕ). IsName l name.min name.max) (sym named.level)
    (subst (λ (m : ℕ). IsName run.level m name.max) (sym named.min)
    (subst (λ (m : ℕ). IsName run.level run.min m) (sym named.max) valid))

-- the run's files lead from each state before it
run_leads : (files : Files) (history : History) (log : SyncLog) (faithful : IsFaithful files history log)
    (names : List FileName)
    (run : Run) (size : ℕ) (first : FileName) (rest : List FileName) (file : LtxFile) (read : List LtxFile)
    → AreIn files names → IsRunOf names run first rest → AreFilesUnder files (first ∷ rest) (file ∷ read)
    → HavePageSize size (file ∷ read) → (s : ℕ) → MayFollow run.min run.max s
    → Leads files history log faithful size s run.max (map change_of (file ∷ read))
run_leads files history log faithful names run size first rest file read all is are sized s follows = elim
    (nine_or_not run.level is.level) [
      | inl nine ↦
          let chosen = (is.whole nine).chain in
          let leads = chosen_leads names run.max 0 (first ∷ rest) run.max chosen in
          let there = run_in files names run first rest all is in
          let positive = (there first (0, omega arith, refl)).valid.from_first in
          let one : first.min ≡ 1 = omega (arith, positive, leads.1.begins) in
          let none = from_nothing run.min run.max s first.min is.begins one follows in
          subst (λ (n : ℕ). Leads files history log faithful size n run.max (map change_of (file ∷ read))) (sym none)
          (chain_leads files history log faithful names size run.max 0 first rest file read there leads
          (begins_once names run.max (first ∷ rest) chosen) are sized (inl (one, refl)))
      | inr other ↦
          gapless_leads files history log faithful (run.level - 1) size run.max first rest file read
          (run_in files names run first rest all is) (is.piled other).gapless are sized s
          (subst (λ (n : ℕ). MayFollow n run.max s) (sym is.begins) follows)
    ]

-- what turns the state of one transaction into that of another
turned : (files : Files) (history : History) (log : SyncLog) (faithful : IsFaithful files history log) (size s max : ℕ)
    (changes : List Change) (c : Change) → Leads files history log faithful size s max changes → IsMerged c changes
    → c.page_size ≡ size → TurnsInto history log c s max
turned files history log faithful size s max changes c leads merged same = record {
  before = leads.before;
  recorded = leads.recorded;
  fits = merge_fits size leads.before leads.after changes c leads.over merged same;
  after = leads.reached ∙ ap (λ (t : State). Some t)
      (merge_makes size leads.before leads.after changes c leads.over merged same);
}

abbrev line_with : Place → ℕ → Line
line_with place moment = record { place = place; moment = moment }

file_at_end : (files : Files) (before : List FileName) (name : FileName) (read before_read : List LtxFile)
    (last : LtxFile)
    → AreFilesUnder files (before ++ name ∷ []) read → read ≡ before_read ++ last ∷ [] → IsFileUnder files name last
file_at_end files before name read before_read last are ends =
    let found = last_file files before name read are in
    let same = last_same found.before before_read found.last last (sym found.ends ∙ ends) in
    subst (IsFileUnder files name) same found.is

module _ (files : Files) (history : History) (log : SyncLog) (faithful : IsFaithful files history log)
    (names : List FileName)
    (run : Run) (bytes : List ℕ) (all : AreIn files names) (merges : Merges files names run bytes) where
  abbrev merge : IsMergeOf merges.merge.read bytes
  merge = merges.merge.merge

  abbrev plan : List FileName
  plan = merges.of.first ∷ merges.of.rest

  there : AreIn files plan
  there = run_in files names run merges.of.first merges.of.rest all merges.of.files

  -- the file under the run's last name
  record IsAtEnd : Type 0 where
    name : FileName
    there : IsIn files name
    max : name.max ≡ run.max
    is : IsFileUnder files name merge.last

  at_end : IsAtEnd
  at_end =
      let end = run_end names run merges.of.first merges.of.rest merges.of.files in
      let are = subst (λ (ns : List FileName). AreFilesUnder files ns merges.merge.read) end.2 merges.merge.are.are in
      record {
        name = end.1;
        there = there end.1 (subst (λ (ns : List FileName). Contains ns end.1) (sym end.2) (Contains-push end.0 end.1));
        max = end.3;
        is = file_at_end files end.0 end.1 merges.merge.read merge.before merge.last are merge.ends;
      }

  min_is : merge.header.min ≡ run.min
  min_is =
      let are = subst (λ (fs : List LtxFile). AreFilesUnder files plan fs) merge.begins merges.merge.are.are in
      merge.min ∙ are.0.from_min ∙ merges.of.files.begins

  max_is : merge.header.max ≡ run.max
  max_is = merge.max ∙ at_end.is.to_max ∙ at_end.max

  leads : (s : ℕ) → MayFollow run.min run.max s → TurnsInto history log merge.change s run.max
  leads s follows =
      let are = subst (λ (fs : List LtxFile). AreFilesUnder files plan fs) merge.begins merges.merge.are.are in
      let sized = subst (λ (fs : List LtxFile). HavePageSize merges.merge.are.size fs) merge.begins
      merges.merge.are.one_size in
      let size = merge.file.same_size ∙ merge.size ∙ last_sized merges.merge.are.size merges.merge.read merge.before
      merge.last
      merges.merge.are.one_size merge.ends in
      turned files history log faithful merges.merge.are.size s run.max (map change_of merges.merge.read) merge.change
      (subst (λ (fs : List LtxFile). Leads files history log faithful merges.merge.are.size s run.max
      (map change_of fs)) (sym merge.begins)
      (run_leads files history log faithful names run merges.merge.are.size merges.of.first merges.of.rest merge.first
      merge.rest
      all merges.of.files are sized s follows))
      merge.merged size

  merged_file : (name : FileName) → IsName run.level run.min run.max → IsNameOf run name
      → IsMergedFile history log name bytes
  merged_file name valid named =
      let end = at_end in
      let true = is_true files history log faithful end.name merge.last end.there end.is in
      let last = true.own.header in
      let line : line_of log run.max ≡ Some (line_with merge.header.place merge.header.moment) =
      subst (λ (n : ℕ). line_of log n
      ≡ Some (line_with merge.header.place merge.header.moment)) end.max (true.own.line
      ∙ ap (λ (h : LtxHeader). Some (line_with h.place h.moment)) true.header
      ∙ ap (λ (p : Place). Some (line_with p merge.last.header.moment)) (sym merge.place)
      ∙ ap (λ (m : ℕ). Some (line_with merge.header.place m)) (sym merge.moment)) in
      let min = sym named.min in
      let max = sym named.max in
      record {
        valid = valid_name run name valid named;
        within = omega (arith, faithful.within end.name end.there, end.max, named.max);
        file = record {
          header = merge.header;
          change = merge.change;
          file = record { file = merge.file; from_min = min_is ∙ min; to_max = max_is ∙ max };
          line = subst (λ (n : ℕ). line_of log n ≡ Some (line_with merge.header.place merge.header.moment)) max line;
          leads = λ s follows. subst (TurnsInto history log merge.change s) max
              (leads s (subst (λ (n : ℕ). MayFollow n run.max s) named.min
              (subst (λ (n : ℕ). MayFollow name.min n s) named.max follows)));
        };
      }

pub merges_keep_faith : MergesKeepFaith
merges_keep_faith files history log names run name bytes faithful all valid merges named =
    merged_file files history log faithful names run bytes all merges name valid named
