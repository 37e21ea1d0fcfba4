-- A line that is put piece by piece.
use Rattle.std.proofs.Common.{◌≡◌, ℕ, List, [], ◌++◌, Option, Some, None, length, take, drop, codes, refl, sym, ap, ◌∙◌}
use Rattle.std.proofs.Common.{append_assoc, append-nil, get_or, Bor}
use Rattle.std.specs.Prelude.{option_copied, unwrap_or}
use Rattle.std.specs.List.{slice_get}
use Rattle.std.proofs.lemmas.Option.{unwrap_or-slice_get}
use Rattle.std.proofs.lemmas.List.{take-append-drop}
use Rattle.std.proofs.Math.Seq.{take-append_seam}
use Rattle.crash_disk.specs.Output.{gains_text, GainsFront}
use Rattle.ls_base.specs.Txid.{hex_digits}
use Rattle.ls_words.specs.declared.usage.Usage.{Usage as BadWord}
use Rattle.ls_answers.specs.declared.outcome.Why.{Why}
use Rattle.ls_answers.specs.declared.outcome.Why.TheVariants.{Done, SkippedOutput, SkippedReplica, NotBuilt, Usage}
use Rattle.ls_answers.specs.declared.outcome.Why.TheVariants.{NoReplica, MissingRange, NoMoment, Damaged, PageMissing}
use Rattle.ls_answers.specs.declared.outcome.Why.TheVariants.{OutputExists, StoreFault, TargetFault, SinkFault, Memory}
use Rattle.ls_answers.specs.declared.outcome.Why.TheVariants.{NoDatabase, Header, SizesDiffer, WalTooLong, TooLarge}
use Rattle.ls_answers.specs.declared.outcome.Why.TheVariants.{GateBroken, TxidSpent, LiveFault}
use Rattle.ls_answers.specs.Refusal.{blamed_word, usage_text, reason_text, refusal_text, said_text}

-- of the text the rest isn't put yet, and what stands before it is
pub record IsPutUpTo (before now : Option (List ℕ)) (whole rest : List ℕ) : Type 0 where
  pub sent : List ℕ
  pub text : now ≡ gains_text before sent
  pub split : sent ++ rest ≡ whole

-- one text behind another is both
gains_both : (text : Option (List ℕ)) (xs ys : List ℕ)
    → gains_text (gains_text text xs) ys ≡ gains_text text (xs ++ ys)
gains_both None xs ys = refl
gains_both (Some bytes) xs ys = ap Some (append_assoc bytes xs ys)

-- nothing is put yet
pub none_put : (text : Option (List ℕ)) (whole rest : List ℕ) → rest ≡ whole → IsPutUpTo text text whole rest
none_put None whole rest is = record { sent = []; text = refl; split = is }
none_put (Some had) whole rest is = record { sent = []; text = ap Some (sym (append-nil had)); split = is }

-- a piece more is put
pub more_put : (a b c : Option (List ℕ)) (whole piece rest : List ℕ) → IsPutUpTo a b whole (piece ++ rest)
    → c ≡ gains_text b piece → IsPutUpTo a c whole rest
more_put a b c whole piece rest was now = record {
  sent = was.sent ++ piece;
  text = now ∙ ap (λ t. gains_text t piece) was.text ∙ gains_both a was.sent piece;
  split = append_assoc was.sent piece rest ∙ was.split;
}

-- a front of a piece more is put
pub front_put : (a b c : Option (List ℕ)) (whole piece rest : List ℕ) → IsPutUpTo a b whole (piece ++ rest)
    → GainsFront b c piece → GainsFront a c whole
front_put a b c whole piece rest was (k, front) =
    let cut : (was.sent ++ take k piece) ++ (drop k piece ++ rest) ≡ whole =
    append_assoc was.sent (take k piece) (drop k piece ++ rest)
    ∙ ap (λ xs. was.sent ++ xs) (sym (append_assoc (take k piece) (drop k piece) rest)
    ∙ ap (λ xs. xs ++ rest) (take-append-drop k piece))
    ∙ was.split in
    let is_front : take (length (was.sent ++ take k piece)) whole ≡ was.sent ++ take k piece =
    ap (take (length (was.sent ++ take k piece))) (sym cut)
    ∙ take-append_seam (was.sent ++ take k piece) (drop k piece ++ rest) in (
      length (was.sent ++ take k piece),
      front ∙ ap (λ t. gains_text t (take k piece)) was.text ∙ gains_both a was.sent (take k piece)
          ∙ ap (gains_text a) (sym is_front),
    )

-- the whole is put
pub all_put : (a b : Option (List ℕ)) (whole : List ℕ) → IsPutUpTo a b whole [] → b ≡ gains_text a whole
all_put a b whole was = was.text ∙ ap (gains_text a) (sym (append-nil was.sent) ∙ was.split)

-- the line of a bad word is its head, the word and the line's end
pub usage_pieces : (words : List (List ℕ)) (usage : BadWord) (head word : List ℕ)
    → head ≡ codes "litestream: " ++ codes "usage: " ++ usage_text usage.why ++ codes ": "
    → word ≡ blamed_word words usage.word → head ++ (word ++ codes "\n") ≡ said_text words (Usage usage)
usage_pieces words usage head word is_head is_word =
    let text = usage_text usage.why in
    let blamed = blamed_word words usage.word in
    let e : codes "litestream: usage: " ++ (text ++ codes ": ") ++ (blamed ++ codes "\n")
    ≡ codes "litestream: usage: " ++ ((text ++ codes ": ") ++ blamed ++ codes "\n") =
    ap (λ xs. codes "litestream: usage: " ++ xs) (sym (append_assoc (text ++ codes ": ") blamed (codes "\n"))) in
    ap (λ xs. xs ++ (word ++ codes "\n")) is_head
    ∙ ap (λ xs. codes "litestream: " ++ codes "usage: " ++ text ++ codes ": " ++ (xs ++ codes "\n")) is_word ∙ e

-- where there is a reason, it is the refusal's text
pub reason_is : (words : List (List ℕ)) (why : Why) (reason : List ℕ) → Some reason ≡ reason_text why
    → refusal_text words why ≡ Some reason
reason_is words NotBuilt reason is = sym is
reason_is words NoDatabase reason is = sym is
reason_is words (Header fault) reason is = sym is
reason_is words (SizesDiffer db wal) reason is = sym is
reason_is words (WalTooLong size) reason is = sym is
reason_is words (TooLarge size) reason is = sym is
reason_is words (GateBroken broken) reason is = sym is
reason_is words TxidSpent reason is = sym is
reason_is words LiveFault reason is = sym is
reason_is words NoReplica reason is = sym is
reason_is words (MissingRange after) reason is = sym is
reason_is words NoMoment reason is = sym is
reason_is words (Damaged name damage) reason is = sym is
reason_is words (PageMissing name number) reason is = sym is
reason_is words (OutputExists size) reason is = sym is
reason_is words StoreFault reason is = sym is
reason_is words TargetFault reason is = sym is
reason_is words SinkFault reason is = sym is
reason_is words Memory reason is = sym is
reason_is words Done reason is = absurd cc
reason_is words SkippedOutput reason is = absurd cc
reason_is words SkippedReplica reason is = absurd cc
reason_is words (Usage usage) reason is = absurd cc

-- 0 in 16 digits
pub no_digits : (n : ℕ) → n ≡ 0 → codes "0000000000000000" ≡ hex_digits n
unfolding hex_digits
no_digits n none = rw none refl

copied_or : (r : Option (Bor (List ℕ))) (d : Bor (List ℕ)) → d.now ≡ []
    → (unwrap_or r d).now ≡ unwrap_or (option_copied r) []
copied_or None d e = e
copied_or (Some x) d e = refl

-- the word at a place, or an empty one
pub word-from_get : (words : List (List ℕ)) (at : ℕ) (r : Option (Bor (List ℕ))) (d : Bor (List ℕ))
    → option_copied r ≡ slice_get words at → d.now ≡ [] → (unwrap_or r d).now ≡ get_or words at []
word-from_get words at r d got empty =
    copied_or r d empty ∙ ap (λ o. unwrap_or o []) got ∙ unwrap_or-slice_get words at []

-- a text isn't none
pub is_told : (said : Option (List ℕ)) (text : List ℕ) → said ≡ Some text → said ≡ None → ⊥
is_told said text some none = cc
