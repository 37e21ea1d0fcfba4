-- What a follower of a live database comes to, step by step.
use Rattle.std.proofs.Common.{◌≡◌, ℕ, ◌≤◌, Bool, true, false, List, take, Option, Some, None, Result, Ok, Err, refl}
use Rattle.std.proofs.Common.{sym, ap, subst, ◌∙◌, inl, inr, arith}
use Rattle.std.specs.Prelude.{◌⊎◌}
use Rattle.ls_base.specs.declared.mark.Mark.{Mark}
use Rattle.ls_base.specs.declared.place.Place.{Place}
use Rattle.ls_base.specs.Limits.{log_limit}
use Rattle.db_page.specs.DatabaseHeader.{IsWalDatabase, IsFirstFault}
use Rattle.wal_frames.specs.declared.header.WalHeader.{WalHeader}
use Rattle.live_gate.specs.LiveRecord.{Database, Asked, LiveRecord}
use Rattle.live_gate.proofs.StepLemmas.{step_join}
use Rattle.wal_follow.specs.declared.answer.Found.{Found}
use Rattle.wal_follow.specs.declared.answer.Next.{Next}
use Rattle.wal_follow.specs.declared.answer.Next.TheVariants.{Same, Piece, Lost}
use Rattle.wal_follow.specs.declared.fault.FollowFault.{FollowFault}
use Rattle.wal_follow.specs.declared.fault.FollowFault.TheVariants.{Header, SizesDiffer, WalTooLong, TooLarge}
use Rattle.wal_follow.specs.declared.fault.FollowFault.TheVariants.{GateBroken, Live, Memory}
use Rattle.wal_follow.specs.declared.following.Following.{Following}
use Rattle.wal_follow.specs.declared.following.Target.{Target}
use Rattle.wal_follow.specs.Answers.{SaysSize, IsLostAtMark, IsLostAtRest, AreSince, LosesAtMark, LosesAtRest, LeadsOn}
use Rattle.wal_follow.specs.Answers.{StaysAtMark, StaysAtRest, Answers, IsAnswerToHeader, IsAnswerToLength}
use Rattle.wal_follow.specs.Answers.{AnswersInOrder}
use Rattle.wal_follow.specs.Asks.{IsHeaderAnswer, IsLengthAnswer, HasHead, AsksHeader, HasLength, AsksLength}
use Rattle.wal_follow.specs.Calls.{Follows}
use Rattle.wal_follow.specs.Following.{Fits}
use Rattle.wal_follow.specs.Steps.{IsMarkAnswer, IsRestAnswer}
use Rattle.wal_follow.proofs.AtRestLemmas.{fits_same}
use Rattle.wal_follow.proofs.LogGatherLemmas.{IsKnown, fits_known}

-- ---- a follower that forgets what it found

abbrev pub forgotten : Following → Following
forgotten f = record f { found = None }

pub known_forgotten : (f : Following) → IsKnown f (forgotten f)
known_forgotten f = record {
  place = refl;
  recorded = refl;
  passed = refl;
  pages = refl;
  kept = refl;
  head = λ passed recorded log. refl;
}

pub fits_forgotten : (f : Following) (d : Database) → Fits f d → Fits (forgotten f) d
fits_forgotten f d fits = record {
  gate = fits.gate;
  calm = λ calm. fits_known f (forgotten f) d (known_forgotten f) (λ target is. absurd (nothing is)) (fits.calm calm);
}
  where
    nothing : {t : Target} → ◌≡◌ {A = Option Target} None (Some t) → ⊥
    nothing e = cc

-- ---- what is answered is the same for each follower at the place

module _ (g f : Following) (place : g.place ≡ f.place) (passed : g.passed ≡ f.passed) (pages : g.pages ≡ f.pages)
    (old new : Database) where
  lost_at_mark : (log : List ℕ) (q : Mark) → IsLostAtMark g.passed g.place log q → IsLostAtMark f.passed f.place log q
  lost_at_mark log q lost = subst (λ (b : Bool). IsLostAtMark b f.place log q) passed
      (subst (λ (p : Option Place). IsLostAtMark g.passed p log q) place lost)

  kept_at_mark : (log : List ℕ) (q : Mark) → IsLostAtMark f.passed f.place log q → IsLostAtMark g.passed g.place log q
  kept_at_mark log q lost = subst (λ (b : Bool). IsLostAtMark b g.place log q) (sym passed)
      (subst (λ (p : Option Place). IsLostAtMark f.passed p log q) (sym place) lost)

  lost_at_rest : (rest : Place) → IsLostAtRest g.passed g.place rest → IsLostAtRest f.passed f.place rest
  lost_at_rest rest lost = subst (λ (b : Bool). IsLostAtRest b f.place rest) passed
      (subst (λ (p : Option Place). IsLostAtRest g.passed p rest) place lost)

  kept_at_rest : (rest : Place) → IsLostAtRest f.passed f.place rest → IsLostAtRest g.passed g.place rest
  kept_at_rest rest lost = subst (λ (b : Bool). IsLostAtRest b g.place rest) (sym passed)
      (subst (λ (p : Option Place). IsLostAtRest f.passed p rest) (sym place) lost)

  since_by : (b : Bool) (log : List ℕ) (h : WalHeader) (q : Mark) (start : ℕ) (since : List (List ℕ))
      → AreSince b g log h q start since → AreSince b f log h q start since
  since_by true log h q start since are = (sym pages ∙ are.0, are.1)
  since_by false log h q start since are = (are.0, are.1, sym place ∙ are.2, are.3, are.4, are.5)

  leads_on : (found : Found) → LeadsOn g found old new → LeadsOn f found old new
  leads_on found on = record {
    h = on.h;
    q = on.q;
    finds = on.finds;
    describes = on.describes;
    follows = λ lost. on.follows (kept_at_mark new.committed on.q lost);
    later = λ same. on.later (place ∙ same);
    start = on.start;
    since = on.since;
    are_since = subst (λ (b : Bool). AreSince b f new.committed on.h on.q on.start on.since) passed
        (since_by g.passed new.committed on.h on.q on.start on.since on.are_since);
    numbers = on.numbers;
    listed = on.listed;
    wanted = on.wanted;
  }

  loses_at_mark : (found : Found) → LosesAtMark g found old new → LosesAtMark f found old new
  loses_at_mark found l = record {
    h = l.h;
    q = l.q;
    finds = l.finds;
    describes = l.describes;
    lost = lost_at_mark new.committed l.q l.lost;
  }

  loses_at_rest : (found : Found) → LosesAtRest g found old new → LosesAtRest f found old new
  loses_at_rest found l = record { finds = l.finds; describes = l.describes; lost = lost_at_rest _ l.lost }

  loses : (found : Found) → LosesAtMark g found old new ⊎ LosesAtRest g found old new
      → LosesAtMark f found old new ⊎ LosesAtRest f found old new
  loses found (inl l) = inl (loses_at_mark found l)
  loses found (inr l) = inr (loses_at_rest found l)

  stays : StaysAtMark g old new ⊎ StaysAtRest g old new → StaysAtMark f old new ⊎ StaysAtRest f old new
  stays (inl s) = inl (record {
    h = s.h;
    q = s.q;
    finds = s.finds;
    follows = λ lost. s.follows (kept_at_mark new.committed s.q lost);
    same = sym place ∙ s.same;
  })
  stays (inr s) = inr (record {
    size = s.size;
    finds = s.finds;
    follows = λ lost. s.follows (kept_at_rest _ lost);
  })

  pub answers_same : (result : Result Next FollowFault) → Answers g result old new → Answers f result old new
  answers_same (Ok Same) is = stays is
  answers_same (Ok (Piece found)) is = (leads_on found is.0, is.1)
  answers_same (Ok (Lost found)) is = (loses found is.0, is.1, is.2)
  answers_same (Err (SizesDiffer db wal)) is = is
  answers_same (Err (TooLarge n)) is = is
  answers_same (Err (Header fault)) is = tt
  answers_same (Err (WalTooLong n)) is = tt
  answers_same (Err (GateBroken broken)) is = tt
  answers_same (Err (Live fault)) is = tt
  answers_same (Err Memory) is = tt

-- ---- the order of the answers

some_list : {x y : List ℕ} → ◌≡◌ {A = Option (List ℕ)} (Some x) (Some y) → x ≡ y
some_list e = cc

pub some_number : {x y : ℕ} → ◌≡◌ {A = Option ℕ} (Some x) (Some y) → x ≡ y
some_number e = cc

pub in_order : (result : Result Next FollowFault) (new : LiveRecord) (bytes : List ℕ) (n : ℕ)
    → new.asked.head ≡ Some bytes → new.asked.wal_size ≡ Some n → IsAnswerToHeader result bytes
    → IsAnswerToLength result n → AnswersInOrder result new
in_order result new bytes n head size first second = record {
  header = λ b is. subst (λ (l : List ℕ). IsAnswerToHeader result l) (some_list (sym head ∙ is)) first;
  length = λ m is. subst (λ (k : ℕ). IsAnswerToLength result k) (some_number (sym size ∙ is)) second;
}

module _ (size : ℕ) (file : List ℕ) (says : SaysSize file size) (n : ℕ) (limit : n ≤ log_limit) where
  pub mark_header : (result : Result Next FollowFault) → IsMarkAnswer size result
      → IsAnswerToHeader result (take 100 file)
  mark_header (Ok next) is = says.database
  mark_header (Err (Header fault)) is = absurd is
  mark_header (Err (SizesDiffer db wal)) is = (says.database, says.is ∙ sym is)
  mark_header (Err (WalTooLong m)) is = absurd is
  mark_header (Err (TooLarge m)) is = says.database
  mark_header (Err (GateBroken broken)) is = absurd is
  mark_header (Err (Live fault)) is = absurd is
  mark_header (Err Memory) is = tt

  pub mark_length : (result : Result Next FollowFault) → IsMarkAnswer size result → IsAnswerToLength result n
  mark_length (Ok next) is = limit
  mark_length (Err (Header fault)) is = absurd is
  mark_length (Err (SizesDiffer db wal)) is = limit
  mark_length (Err (WalTooLong m)) is = absurd is
  mark_length (Err (TooLarge m)) is = limit
  mark_length (Err (GateBroken broken)) is = absurd is
  mark_length (Err (Live fault)) is = absurd is
  mark_length (Err Memory) is = tt

  pub rest_header : (result : Result Next FollowFault) → IsRestAnswer result → IsAnswerToHeader result (take 100 file)
  rest_header (Ok next) is = says.database
  rest_header (Err (Header fault)) is = absurd is
  rest_header (Err (SizesDiffer db wal)) is = absurd is
  rest_header (Err (WalTooLong m)) is = absurd is
  rest_header (Err (TooLarge m)) is = says.database
  rest_header (Err (GateBroken broken)) is = absurd is
  rest_header (Err (Live fault)) is = tt
  rest_header (Err Memory) is = tt

  pub rest_length : (result : Result Next FollowFault) → IsRestAnswer result → IsAnswerToLength result n
  rest_length (Ok next) is = limit
  rest_length (Err (Header fault)) is = absurd is
  rest_length (Err (SizesDiffer db wal)) is = absurd is
  rest_length (Err (WalTooLong m)) is = absurd is
  rest_length (Err (TooLarge m)) is = limit
  rest_length (Err (GateBroken broken)) is = absurd is
  rest_length (Err (Live fault)) is = tt
  rest_length (Err Memory) is = tt

-- ---- the header of the database file is refused

-- what wasn't read changes nothing of these
record IsAsked (old new : Asked) : Type 0 where
  taken : new.taken ≡ old.taken
  passes : (new.passes_asked ≡ old.passes_asked) × (new.passes_done ≡ old.passes_done)

header_asked : (fault : FollowFault) (old new : LiveRecord) → IsHeaderAnswer (Err fault) → HasHead (Err fault) old new
    → IsAsked old.asked new.asked
header_asked (Header fault) old new is has = record {
  taken = ap (λ (a : Asked). a.taken) has.1;
  passes = (ap (λ (a : Asked). a.passes_asked) has.1, ap (λ (a : Asked). a.passes_done) has.1);
}
header_asked (Live fault) old new is has = record {
  taken = ap (λ (a : Asked). a.taken) has;
  passes = (ap (λ (a : Asked). a.passes_asked) has, ap (λ (a : Asked). a.passes_done) has);
}
header_asked (SizesDiffer db wal) old new is has = absurd is
header_asked (WalTooLong n) old new is has = absurd is
header_asked (TooLarge n) old new is has = absurd is
header_asked (GateBroken broken) old new is has = absurd is
header_asked Memory old new is has = absurd is

header_order : (fault : FollowFault) (old new : LiveRecord) → IsHeaderAnswer (Err fault) → HasHead (Err fault) old new
    → AnswersInOrder (Err fault) new
header_order (Header fault) old new is has = record {
  header = λ bytes given. subst (λ (l : List ℕ). IsFirstFault l fault)
      (some_list (sym (ap (λ (a : Asked). a.head) has.1) ∙ given)) has.0;
  length = λ n given. tt;
}
header_order (Live fault) old new is has = record { header = λ bytes given. tt; length = λ n given. tt }
header_order (SizesDiffer db wal) old new is has = absurd is
header_order (WalTooLong n) old new is has = absurd is
header_order (TooLarge n) old new is has = absurd is
header_order (GateBroken broken) old new is has = absurd is
header_order Memory old new is has = absurd is

header_answers : (f : Following) (fault : FollowFault) (old new : Database) → IsHeaderAnswer (Err fault)
    → Answers f (Err fault) old new
header_answers f (Header fault) old new is = tt
header_answers f (Live fault) old new is = tt
header_answers f (SizesDiffer db wal) old new is = absurd is
header_answers f (WalTooLong n) old new is = absurd is
header_answers f (TooLarge n) old new is = absurd is
header_answers f (GateBroken broken) old new is = absurd is
header_answers f Memory old new is = absurd is

pub follows_header : (f : Following) (result : Result Next FollowFault) (fault : FollowFault) (old new : LiveRecord)
    → result ≡ Err fault → IsHeaderAnswer (Err fault) → AsksHeader (Err fault) old new → Fits f old.database
    → Follows f (forgotten f) result old new
follows_header f result fault old new is answer asks fits =
    let asked = header_asked fault old new answer asks.head in
    subst (λ (r : Result Next FollowFault). Follows f (forgotten f) r old new) (sym is) (record {
      step = asks.step;
      awake = λ ok. absurd cc;
      answers = λ legal calm. header_answers f fault old.database new.database answer;
      order = header_order fault old new answer asks.head;
      behind = λ calm a b end s0 s1 n recorded passed at size. omega (arith, asked.taken);
      fits = λ legal awake. fits_same f (forgotten f) old.database new.database (known_forgotten f) refl asks.step fits
          awake;
      passes = asked.passes;
    })

-- ---- the log is too long

length_asked : (fault : FollowFault) (old new : LiveRecord) → IsLengthAnswer (Err fault) → HasLength (Err fault) old new
    → IsAsked old.asked new.asked
length_asked (WalTooLong n) old new is has = record {
  taken = ap (λ (a : Asked). a.taken) has;
  passes = (ap (λ (a : Asked). a.passes_asked) has, ap (λ (a : Asked). a.passes_done) has);
}
length_asked (Live fault) old new is has = record {
  taken = ap (λ (a : Asked). a.taken) has;
  passes = (ap (λ (a : Asked). a.passes_asked) has, ap (λ (a : Asked). a.passes_done) has);
}
length_asked (Header fault) old new is has = absurd is
length_asked (SizesDiffer db wal) old new is has = absurd is
length_asked (TooLarge n) old new is has = absurd is
length_asked (GateBroken broken) old new is has = absurd is
length_asked Memory old new is has = absurd is

length_order : (fault : FollowFault) (old new : LiveRecord) (bytes : List ℕ) → IsLengthAnswer (Err fault)
    → HasLength (Err fault) old new → old.asked.head ≡ Some bytes → IsWalDatabase bytes → AnswersInOrder (Err fault) new
length_order (WalTooLong n) old new bytes is has head database =
    in_order (Err (WalTooLong n)) new bytes n (ap (λ (a : Asked). a.head) has ∙ head)
    (ap (λ (a : Asked). a.wal_size) has) database (refl, is)
length_order (Live fault) old new bytes is has head database = record {
  header = λ b given. tt;
  length = λ n given. tt;
}
length_order (Header fault) old new bytes is has head database = absurd is
length_order (SizesDiffer db wal) old new bytes is has head database = absurd is
length_order (TooLarge n) old new bytes is has head database = absurd is
length_order (GateBroken broken) old new bytes is has head database = absurd is
length_order Memory old new bytes is has head database = absurd is

length_answers : (f : Following) (fault : FollowFault) (old new : Database) → IsLengthAnswer (Err fault)
    → Answers f (Err fault) old new
length_answers f (WalTooLong n) old new is = tt
length_answers f (Live fault) old new is = tt
length_answers f (Header fault) old new is = absurd is
length_answers f (SizesDiffer db wal) old new is = absurd is
length_answers f (TooLarge n) old new is = absurd is
length_answers f (GateBroken broken) old new is = absurd is
length_answers f Memory old new is = absurd is

pub follows_length : (f : Following) (result : Result Next FollowFault) (fault : FollowFault) (size : ℕ)
    (old mid new : LiveRecord) → result ≡ Err fault → IsLengthAnswer (Err fault) → AsksHeader (Ok size) old mid
    → AsksLength (Err fault) mid new → Fits f old.database → Follows f (forgotten f) result old new
follows_length f result fault size old mid new is answer head asks fits =
    let asked = length_asked fault mid new answer asks.said in
    let step = step_join old.database mid.database new.database head.step asks.step in
    let taken : mid.asked.taken ≡ old.asked.taken = ap (λ (a : Asked). a.taken) head.head.1 in
    subst (λ (r : Result Next FollowFault). Follows f (forgotten f) r old new) (sym is) (record {
      step = step;
      awake = λ ok. absurd cc;
      answers = λ legal calm. length_answers f fault old.database new.database answer;
      order = length_order fault mid new (take 100 mid.database.file) answer asks.said
          (ap (λ (a : Asked). a.head) head.head.1) head.head.0.database;
      behind = λ calm a b end s0 s1 n recorded passed at size_is. omega (arith, asked.taken, taken);
      fits = λ legal awake. fits_same f (forgotten f) old.database new.database (known_forgotten f) refl step fits
          awake;
      passes = (
        asked.passes.0
            ∙ ap (λ (a : Asked). a.passes_asked) head.head.1,
        asked.passes.1
            ∙ ap (λ (a : Asked). a.passes_done) head.head.1,
      );
    })
