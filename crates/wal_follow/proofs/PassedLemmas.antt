-- A pass at the follower's place.
use Rattle.std.proofs.Common.{◌≡◌, ℕ, true, List, [], ◌∷◌, ◌++◌, length, Option, Some, None, Result, Ok, Err, sym, ap}
use Rattle.std.proofs.Common.{◌∙◌, inl, inr, append_assoc, arith}
use Rattle.std.specs.List.{slice_get}
use Rattle.ls_base.specs.declared.entry.Entry.{Entry}
use Rattle.ls_base.specs.declared.place.Place.{Place}
use Rattle.ls_base.specs.State.{State}
use Rattle.ls_base.specs.History.{History, state_of, state_at}
use Rattle.ls_base.proofs.HistoryLemmas.{state_at-entry, state_at-grown}
use Rattle.wal_frames.specs.declared.header.WalHeader.{WalHeader}
use Rattle.wal_frames.specs.declared.fault.WalHeaderFault.{WalHeaderFault}
use Rattle.wal_frames.specs.declared.fault.WalHeaderFault.TheVariants.{Short}
use Rattle.wal_frames.specs.WalFormat.{read_header}
use Rattle.wal_frames.specs.Marks.{marks_of}
use Rattle.wal_frames.proofs.LogLemmas.{no_marks}
use Rattle.live_gate.specs.LiveRecord.{Database}
use Rattle.live_gate.specs.Legal.{IsAtRest, IsRecorded, IsLegal}
use Rattle.live_gate.specs.LiveCalls.{TakesPlace}
use Rattle.live_gate.proofs.CommitLemmas.{no_log}
use Rattle.wal_follow.specs.declared.following.Following.{Following}
use Rattle.wal_follow.specs.Following.{is_in_log, FitsCalm, Fits}
use Rattle.wal_follow.proofs.PieceLemmas.{slice_get-seam}

-- the last elements of one list are the same
last_same : {X : Type 0} (xs ys : List X) (x y : X) → xs ++ x ∷ [] ≡ ys ++ y ∷ [] → x ≡ y
last_same [] [] x y is = cc
last_same [] (b ∷ []) x y is = absurd cc
last_same [] (b ∷ c ∷ ys) x y is = absurd cc
last_same (a ∷ []) [] x y is = absurd cc
last_same (a ∷ c ∷ xs) [] x y is = absurd cc
last_same (a ∷ xs) (b ∷ ys) x y is = last_same xs ys x y (tails is)
  where
    tails : {X : Type 0} {a b : X} {xs ys : List X} → a ∷ xs ≡ b ∷ ys → xs ≡ ys
    tails e = cc

at_rest_then : (history : History) (committed file : List ℕ) (copied : ℕ) → committed ≡ []
    → IsRecorded history committed file copied → IsAtRest history committed file copied
at_rest_then history committed file copied none (inr rest) = rest
at_rest_then history committed file copied none (inl has) = absurd (refused (sym (ap read_header none ∙ no_log)
    ∙ has.accepted))
  where
    refused : {h : WalHeader} → ◌≡◌ {A = Result WalHeader WalHeaderFault} (Err Short) (Ok h) → ⊥
    refused e = cc

module _ (f : Following) (old new : Database) (place : Place) (pages : ℕ) (legal : IsLegal old)
    (takes : TakesPlace place old new)
    (at : f.place ≡ Some place) (log : is_in_log (Some place) ≡ true) (many : f.pages ≡ Some pages)
    (fits : Fits f old) where
  module _ (calm : new.chances ≡ 0) where
    was : FitsCalm f old
    was = fits.calm (omega (arith, calm, takes.chances))

    now_legal : IsLegal new
    now_legal = takes.legal legal

    grown : (p : Place) (s : State) → state_at old.history p ≡ Some s → state_at new.history p ≡ Some s
    grown p s is = ap (λ (l : History). state_at l p) takes.history.is
        ∙ state_at-grown old.history takes.history.rest p s is

    split : new.history ≡ (takes.ends.earlier ++ takes.ends.entry ∷ []) ++ takes.ends.rest ∷ []
    split = takes.ends.split ∙ sym (append_assoc takes.ends.earlier (takes.ends.entry ∷ []) (takes.ends.rest ∷ []))

    rested : IsAtRest new.history new.committed new.file new.copied
    rested = at_rest_then new.history new.committed new.file new.copied takes.emptied now_legal.recorded

    same_rest : takes.ends.rest ≡ rested.last
    same_rest = last_same (takes.ends.earlier ++ takes.ends.entry ∷ []) rested.earlier takes.ends.rest rested.last
        (sym split ∙ rested.split)

    -- the state at the place is that of the file now
    state_now : state_at new.history place ≡ Some (state_of takes.ends.rest)
    state_now =
        let there : slice_get new.history (length takes.ends.earlier) ≡ Some takes.ends.entry =
        ap (λ (l : History). slice_get l (length takes.ends.earlier)) takes.ends.split
        ∙ slice_get-seam takes.ends.earlier takes.ends.entry (takes.ends.rest ∷ []) in
        ap (state_at new.history) (sym takes.ends.at_place)
        ∙ state_at-entry new.history (length takes.ends.earlier) takes.ends.entry
        (now_legal.without_twins calm) there
        ∙ ap (λ (s : State). Some s) (sym takes.ends.same)

    some_state : {a b : State} → ◌≡◌ {A = Option State} (Some a) (Some b) → a ≡ b
    some_state e = cc

    as_many : pages ≡ length takes.ends.rest.pages
    as_many =
        let s = was.learned place pages log at many in
        let same : s.0 ≡ state_of takes.ends.rest = some_state (sym (grown place s.0 s.1) ∙ state_now) in
        sym s.2 ∙ ap (λ (k : State). length k.pages) same

    abbrev after : Following
    after = record f { passed = true; found = None }

    calm_after : FitsCalm after new
    calm_after = record {
      passed = λ is. record {
        held = takes.held;
        entry = takes.ends.rest;
        stands = record {
          earlier = takes.ends.earlier ++ takes.ends.entry ∷ [];
          latest = [];
          split = split;
          many = sym (ap length (ap marks_of takes.emptied ∙ no_marks [] Short no_log));
        };
        at_rest = record { sum = _; is = ap (λ (e : Entry). e.place) same_rest ∙ rested.place };
        place = place;
        is_place = at;
        same = state_now;
        pages = many ∙ ap (λ (n : ℕ). Some n) as_many;
      };
      recorded = λ not. absurd cc;
      learned = λ p n is_log there count.
          let s = was.learned p n is_log there count in (s.0, grown p s.0 s.1, s.2);
      found = λ target is. absurd cc;
    }

  pub passed_fits : Fits (record f { passed = true; found = None }) new
  passed_fits = record { gate = (0, takes.held); calm = λ calm. calm_after calm }
