-- A machine whose log has no commit.
use Rattle.std.proofs.Common.{◌≡◌, ℕ, Bool, true, List, [], ◌∷◌, ◌++◌, length, take, Option, Some, None, refl}
use Rattle.std.proofs.Common.{sym, ap, subst, ◌∙◌, length-append, arith}
use Rattle.ls_base.specs.declared.entry.Entry.{Entry}
use Rattle.ls_base.specs.declared.mark.Mark.{Mark}
use Rattle.ls_base.specs.History.{History}
use Rattle.ls_base.specs.PageSize.{IsPageSize}
use Rattle.ls_base.specs.State.{State, IsState}
use Rattle.wal_frames.specs.declared.header.WalHeader.{WalHeader}
use Rattle.wal_frames.specs.declared.fault.WalHeaderFault.TheVariants.{Short}
use Rattle.wal_frames.specs.WalFormat.{HasSums, wal_header_bytes}
use Rattle.wal_frames.specs.Marks.{IsMark, marks_of, last_mark_of}
use Rattle.wal_frames.specs.View.{file_page, file_pages, view_at_rest, rest_place}
use Rattle.wal_frames.proofs.LogLemmas.{last_is_mark, no_marks}
use Rattle.wal_frames.proofs.ViewLemmas.{is_rest_view}
use Rattle.live_gate.specs.Legal.{IsAtRest, IsLegal}
use Rattle.live_gate.proofs.CommitLemmas.{no_log}
use Rattle.live_gate.proofs.MoveLemmas.{last_state-append}
use Rattle.sim_writer.specs.declared.machine.Machine.{Machine}
use Rattle.sim_writer.specs.CommitFrames.{SaysSize}
use Rattle.sim_writer.specs.InFile.{FramesSay}
use Rattle.sim_writer.specs.Sound.{IsFileEntry, IsSound, database_of, state_behind}
use Rattle.sim_writer.proofs.InFileLemmas.{file_says}
use Rattle.sim_writer.proofs.ListLemmas.{get-end}
use Rattle.sim_writer.proofs.PageLemmas.{no_frames}

-- a log of no bytes has no mark
pub no_mark : (log : List ℕ) → log ≡ [] → (mark : Mark) → IsMark log mark → ⊥
no_mark log none mark is = absurd (omega (arith, is.1, ap length (ap marks_of none ∙ no_marks [] Short no_log)))

pub no_last : (log : List ℕ) → log ≡ [] → (mark : Mark) → last_mark_of log ≡ Some mark → ⊥
no_last log none mark some = no_mark log none mark (last_is_mark log mark some)

-- the machine with the entry of its file last, and these bytes behind no mark
abbrev pub resting : WalHeader → List ℕ → History → Entry → List ℕ → Bool → Option ℕ → Bool → Bool → ℕ → Machine
resting head file earlier entry tail headed held refuses stopped chances = record {
  history = earlier ++ entry ∷ [];
  before_log = length earlier;
  file = file;
  committed = [];
  tail = tail;
  over = 0;
  headed = headed;
  head = head;
  sums = record { s0 = head.s0; s1 = head.s1 };
  copied = 0;
  held = held;
  refuses = refuses;
  stopped = stopped;
  chances = chances;
}

module _ (head : WalHeader) (file : List ℕ) (entry : Entry) (f : IsFileEntry head.size file entry)
    (says : SaysSize head.size (file_page head.size file 1)) (earlier : History) where
  pub at_rest : IsAtRest (earlier ++ entry ∷ []) [] file 0
  at_rest = record {
    none = refl;
    uncopied = refl;
    earlier = earlier;
    last = entry;
    split = refl;
    size = subst IsPageSize (sym f.is_size) f.page_size;
    is_state = subst IsState (sym f.state) (is_rest_view head.size file f.page_size).is_state;
    view = f.state ∙ ap (λ (k : ℕ). view_at_rest k file) (sym f.is_size);
    place = f.place ∙ ap (λ (k : ℕ). rest_place k file) (sym f.is_size);
    header = λ is. file_says head.size file f.page_size says is ∙ sym f.is_size;
  }

  pub resting_sound : (tail : List ℕ) (headed : Bool) (held : Option ℕ) (refuses stopped : Bool) (chances : ℕ)
      → HasSums head → (headed ≡ true → take 32 tail ≡ wal_header_bytes head)
      → IsLegal (database_of (resting head file earlier entry tail headed held refuses stopped chances))
      → IsSound (resting head file earlier entry tail headed held refuses stopped chances)
  resting_sound tail headed held refuses stopped chances sums front legal = record {
    legal = legal;
    sums = sums;
    current = record {
      count = file_pages head.size file;
      is =
          last_state-append None earlier (entry ∷ []) ∙ ap (λ (x : State). Some x) f.state
          ∙ ap (λ (fs : List (List ℕ)). Some (state_behind head file fs (file_pages head.size file)))
          (sym (no_frames [] refl));
    };
    counted = λ other some. absurd (no_last [] refl other some);
    numbered = omega (arith, ap length (no_marks [] Short no_log), length-append earlier (entry ∷ []));
    rests = λ _. record { entry = entry; found = get-end earlier entry; is = f };
    files = record {
      says = says;
      frames_say = subst (λ (fs : List (List ℕ)). FramesSay head.size fs) (sym (no_frames [] refl)) tt;
      stands = λ other is _. absurd (no_mark [] refl other is);
    };
    last = None;
    stands = λ some. absurd (some refl);
    begun = λ _. refl;
    over = omega arith;
    headed = λ is _. front is;
    has_head = λ some. absurd (some refl);
  }
