-- The files that were found are those of the run.
use Rattle.std.proofs.Common.{◌≡◌, ◌≢◌, ℕ, ◌-◌, ◌<◌, ◌≤◌, List, [], ◌∷◌, ◌++◌, refl, sym, ap, subst, ◌∙◌, arith}
use Rattle.std.specs.List.{All}
use Rattle.replica_store.specs.declared.file_name.FileName.{FileName}
use Rattle.replica_store.specs.declared.dated_names.Dated.{Dated}
use Rattle.replica_store.specs.Chain.{IsRetained, names_of}
use Rattle.restore_plan.specs.ChosenChain.{IsChosenChain}
use Rattle.restore_plan.proofs.ChainLemmas.{chosen_leads}
use Rattle.compact_levels.specs.Due.{IsDue}
use Rattle.compact_levels.specs.Merged.{AreRunFiles, IsRun, Spans}
use Rattle.compact_levels.specs.Pile.{IsSameName}
use Rattle.compact_levels.specs.Run.{BeginsBeyond, IsPile, IsRunOf, IsWholeChain}
use Rattle.compact_levels.specs.RunFiles.{BeginsWith, EndsAt, IsPileBehind}
use Rattle.compact_levels.specs.declared.files.Files.{Files}
use Rattle.compact_levels.specs.declared.run.Run.{Run}
use Rattle.compact_levels.proofs.FaithMergeLemmas.{run_end}
use Rattle.compact_levels.proofs.WholeLemmas.{same_beginning}

-- ---- a chain

-- a chain leads to the run's end
pub run_retained : (names : List FileName) (run : Run) → IsRun names run → run.level ≡ 9 → IsRetained names run.max
run_retained names run of nine =
    let whole = of.files.whole nine in
    record {
      positive = omega (arith, whole.beyond);
      chain = of.first ∷ of.rest;
      leads = chosen_leads names run.max 0 (of.first ∷ of.rest) run.max whole.chain;
    }

chain_begins : (names : List FileName) (run : Run) (of : IsRun names run) (nine : run.level ≡ 9) (first : FileName)
    (rest : List FileName)
    → IsChosenChain names run.max (first ∷ rest) → first.min ≡ run.min
chain_begins names run of nine first rest chosen =
    let whole = of.files.whole nine in
    let a : Files = record { first = first; end = run.max } in
    let b : Files = record { first = of.first; end = run.max } in
    (same_beginning names of.files.after a b
    (record { rest = rest; chain = record { newest = whole.newest; beyond = whole.beyond; chain = chosen } })
    (record { rest = of.rest; chain = whole })).min ∙ of.files.begins

pub chain_files : (names : List FileName) (run : Run) (chain files : List FileName) → IsRun names run → run.level ≡ 9
    → IsChosenChain names run.max chain → files ≡ chain → AreRunFiles names run files
chain_files names run [] files of nine chosen same = absurd (omega (arith, (of.files.whole nine).beyond, chosen))
chain_files names run (first ∷ rest) files of nine chosen same =
    let whole = of.files.whole nine in
    record {
      of = record {
        first = first;
        rest = rest;
        files = record {
          level = of.files.level;
          begins = chain_begins names run of nine first rest chosen;
          after = of.files.after;
          end = of.files.end;
          piled = λ other. absurd (other nine);
          whole = λ is. record { newest = whole.newest; beyond = whole.beyond; chain = chosen };
        };
      };
      is = same;
    }

-- ---- a pile

begins_beyond : (level after min : ℕ) (first name : FileName) → BeginsBeyond level after first → first.min ≡ min
    → BeginsWith level min name → BeginsBeyond level after name
begins_beyond level after min first name first_begins is begins = record {
  of_level = begins.of_level;
  begins = omega (arith, first_begins.begins, is, begins.begins);
}

pub pile_behind : (names : List FileName) (level after min : ℕ) (first : FileName) (rest : List FileName) (to : ℕ)
    → (pile : IsPile names level after first rest to) → first.min ≡ min
    → IsPileBehind level min pile.before first rest to
pile_behind names level after min first rest to pile is = record {
  earlier = λ k d low begins. pile.passed k d low (begins_beyond level after min first _ pile.begins is begins);
  begins = record { of_level = pile.begins.of_level; begins = is };
  gapless = pile.gapless;
}

-- what finding a pile says
abbrev pub FindsPile : List FileName → ℕ → ℕ → List FileName → Type 0
FindsPile names level min found =
    (before : List FileName) (first : FileName) (rest behind : List FileName) (to : ℕ)
    → names ≡ before ++ first ∷ rest ++ behind
    → IsPileBehind level min before first rest to → EndsAt level to behind → found ≡ first ∷ rest

pub pile_files : (names : List FileName) (run : Run) (level : ℕ) (found files : List FileName) → IsRun names run
    → run.level ≢ 9
    → level ≡ run.level - 1 → FindsPile names level run.min found → files ≡ found → AreRunFiles names run files
pile_files names run level found files of other below finds same =
    let pile : IsPile names level of.files.after of.first of.rest run.max =
    subst (λ (l : ℕ). IsPile names l of.files.after of.first
    of.rest run.max) (sym below) (of.files.piled other) in
    record {
      of = of;
      is = same ∙ finds pile.before of.first of.rest pile.behind run.max pile.parts
          (pile_behind names level of.files.after run.min of.first of.rest run.max pile of.files.begins) pile.ends;
    }

-- ---- what they span

pub spans : (names : List FileName) (run : Run) (files : List FileName) → AreRunFiles names run files
    → Spans files run.min run.max
spans names run files are =
    let end = run_end names run are.of.first are.of.rest are.of.files in
    record {
      first = are.of.first;
      rest = are.of.rest;
      begins = are.is;
      from_min = are.of.files.begins;
      before = end.0;
      last = end.1;
      ends = are.is ∙ end.2;
      to_max = end.3;
    }

-- a run that is due is one that the names have
pub due_is_run : (dated : List Dated) (now : ℕ) (run : Run) (names : List FileName) → IsDue dated now run
    → names ≡ names_of dated
    → IsRun names run
due_is_run dated now run names is same = record {
  first = is.first;
  rest = is.rest;
  files = subst (λ (ns : List FileName). IsRunOf ns run is.first is.rest) (sym same) is.files;
}
