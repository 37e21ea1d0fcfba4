-- The names of a replica's files, and the passes, through the rounds of a replication.
use Rattle.std.proofs.Common.{◌≡◌, ℕ, ◌+◌, List, [], ◌∷◌, ◌++◌, Bool, true, false, Option, Ok, refl, sym, ap}
use Rattle.std.proofs.Common.{subst, ◌∙◌, inl, inr}
use Rattle.std.specs.Prelude.{if◌then◌else◌, IsSome}
use Rattle.std.specs.FinMap.{get}
use Rattle.std.specs.List.{AllByRecursion}
use Rattle.crash_disk.specs.declared.event.Event.{Event}
use Rattle.crash_disk.specs.Files.{Files, files_after}
use Rattle.live_gate.specs.LiveRecord.{Attachment, LiveRecord, is_at_rest}
use Rattle.live_gate.specs.LiveCalls.{capped}
use Rattle.ltx_format.specs.declared.header.LtxHeader.{LtxHeader}
use Rattle.replica_store.specs.declared.dated_names.Dated.{Dated}
use Rattle.replica_store.specs.declared.file_name.FileName.{FileName}
use Rattle.replica_store.specs.Chain.{names_of}
use Rattle.replica_store.specs.Dating.{HaveMoments, IsHeaderUnder}
use Rattle.replica_store.specs.Listing.{path_of}
use Rattle.replica_store.proofs.OneListLemmas.{one_list}
use Rattle.round_line.specs.declared.round.Round.{Round}
use Rattle.wal_follow.specs.declared.following.Following.{Following}
use Rattle.replica_upkeep.specs.Kept.{AreFiles}
use Rattle.replica_upkeep.proofs.ListedLemmas.{moments_kept}
use Rattle.replica_upkeep.proofs.MomentLemmas.{one_header}
use Rattle.replica_round.specs.LiveSide.{HasRoundedLive}
use Rattle.replica_round.specs.Passing.{PassesWhenLong}
use Rattle.replica_round.specs.StoreSide.{HasRounded, IsRounded}
use Rattle.replicate_command.specs.Asked.{Asked}
use Rattle.replicate_command.specs.Names.{MaintainedRounds, MaintainsNames, CountsPasses, count_behind}

-- ---- files have one list with their moments

same_heads : (a b : FileName) (xs ys : List FileName) → ◌≡◌ {A = List FileName} (a ∷ xs) (b ∷ ys)
    → (a ≡ b) × (xs ≡ ys)
same_heads a b xs ys e = (cc, cc)

abbrev dated_of : FileName → ℕ → Dated
dated_of name moment = record { name = name; moment = moment }

same_pair : (a b : Dated) → a.name ≡ b.name → a.moment ≡ b.moment → a ≡ b
same_pair a b names moments =
    ap (λ (n : FileName). dated_of n a.moment) names ∙ ap (λ (m : ℕ). dated_of b.name m) moments

same_dated : (files : Files) (a b : List Dated) → names_of a ≡ names_of b → HaveMoments files a → HaveMoments files b
    → a ≡ b
same_dated files [] [] same first second = refl
same_dated files [] (y ∷ b) same first second = absurd cc
same_dated files (x ∷ a) [] same first second = absurd cc
same_dated files (x ∷ a) (y ∷ b) same (own, first) (other, second) =
    let heads = same_heads x.name y.name (names_of a) (names_of b) same in
    let header : own.0 ≡ other.0 = one_header files y.name own.0 other.0
    (subst (λ (n : FileName). IsHeaderUnder files n own.0) heads.0 own.1) other.1 in
    let moment : x.moment ≡ y.moment = sym own.2 ∙ ap (λ (h : LtxHeader). h.moment) header ∙ other.2 in
    ap (λ (d : Dated). d ∷ a) (same_pair x y heads.0 moment)
    ∙ ap (λ (rest : List Dated). y ∷ rest) (same_dated files a b heads.1 first second)

pub one_dated : (files : Files) (a b : List Dated) → AreFiles files a → AreFiles files b → a ≡ b
one_dated files a b first second =
    same_dated files a b (one_list files (names_of a) (names_of b) first.listed second.listed) first.moments
    second.moments

-- the same files have the same list
pub files_kept : (before now : Files) (dated : List Dated) → ((q : List ℕ) → get now q ≡ get before q)
    → AreFiles before dated → AreFiles now dated
files_kept before now dated same are = record {
  listed = record {
    ordered = are.listed.ordered;
    valid = are.listed.valid;
    once = are.listed.once;
    each = λ text. (
      λ has. let is = (are.listed.each text).0 has in
          (is.0, subst (λ (file : Option (List ℕ)). IsSome file) (sym (same text)) is.1),
      λ has. (are.listed.each text).1
          (has.0, subst (λ (file : Option (List ℕ)). IsSome file) (same text) has.1),
    );
  };
  moments = moments_kept before now dated (λ name has. same (path_of name)) are.moments;
}

-- ---- names

pub names_of_round : (asked : Asked) (round : Round) (before now : List Event)
    → HasRounded asked.keep asked.now round before now → MaintainsNames asked (round ∷ []) before now
names_of_round asked round before now has = λ dated are.
    let same = one_dated (files_after before) has.syncs.dated dated has.syncs.files are in (
      has.later,
      (has.later, subst (λ (d : List Dated). IsRounded d asked.keep asked.now round has.later) same has.rounds, refl),
      has.files,
    )

pub no_names : (asked : Asked) (events : List Event) → MaintainsNames asked [] events events
no_names asked events = λ dated are. (dated, refl, are)

rounds_then : (keep now : ℕ) (one two : List Round) (dated mid later : List Dated)
    → MaintainedRounds keep now dated one mid → MaintainedRounds keep now mid two later
    → MaintainedRounds keep now dated (one ++ two) later
rounds_then keep now [] two dated mid later first second =
    subst (λ (d : List Dated). MaintainedRounds keep now d two later) first second
rounds_then keep now (round ∷ one) two dated mid later (next, is, rest) second =
    (next, is, rounds_then keep now one two next mid later rest second)

pub names_then : (asked : Asked) (one two : List Round) (before mid now : List Event)
    → MaintainsNames asked one before mid → MaintainsNames asked two mid now
    → MaintainsNames asked (one ++ two) before now
names_then asked one two before mid now first second = λ dated are.
    let a = first dated are in
    let b = second a.0 a.2 in
    (b.0, rounds_then asked.keep asked.now one two dated a.0 b.0 a.1 b.1, b.2)

-- ---- passes

passed_alone : (f after : Following) (at_rest passed : Bool) (old new : LiveRecord)
    → PassesWhenLong f after at_rest (Ok passed) old new → passed ≡ true → at_rest ≡ true
passed_alone f after at_rest true old new (inl (long, (asked, is))) e = asked.passes.2
passed_alone f after at_rest true old new (inr (short, unasked)) e = absurd unasked
passed_alone f after at_rest false old new passes e = absurd cc

pub passes_of_round : (f after : Following) (at_rest : Bool) (attached : Option Attachment) (round : Round)
    (old new : LiveRecord) → at_rest ≡ is_at_rest attached
    → HasRoundedLive at_rest f after round.sync round.passed old new → CountsPasses attached (round ∷ []) old new
passes_of_round f after at_rest attached round old new alike has = record {
  count = has.done;
  alone = (
    λ passed. sym alike ∙ passed_alone has.behind.kept after at_rest round.passed has.behind.mid new
        has.behind.passes passed,
    tt,
  );
}

pub no_passes : (attached : Option Attachment) (old new : LiveRecord)
    → new.asked.passes_done ≡ old.asked.passes_done → CountsPasses attached [] old new
no_passes attached old new same = record { count = same; alone = tt }

count_then : (one two : List Round) (n : ℕ) → count_behind (one ++ two) n ≡ count_behind two (count_behind one n)
count_then [] two n = refl
count_then (round ∷ one) two n = count_then one two (if round.passed then capped (n + 1) else n)

all_then : (P : Round → Type 0) (one two : List Round) → AllByRecursion P one → AllByRecursion P two
    → AllByRecursion P (one ++ two)
all_then P [] two first second = second
all_then P (round ∷ one) two (own, first) second = (own, all_then P one two first second)

pub passes_then : (attached : Option Attachment) (one two : List Round) (old mid new : LiveRecord)
    → CountsPasses attached one old mid → CountsPasses attached two mid new
    → CountsPasses attached (one ++ two) old new
passes_then attached one two old mid new first second = record {
  count = second.count ∙ ap (count_behind two) first.count ∙ sym (count_then one two old.asked.passes_done);
  alone = all_then (λ round. round.passed ≡ true → is_at_rest attached ≡ true) one two first.alone second.alone;
}
