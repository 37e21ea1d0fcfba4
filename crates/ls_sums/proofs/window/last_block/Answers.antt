use Rattle.std.proofs.Common.{◌≡◌, ℕ, ◌+◌, get_or, subst, sym, ◌∙◌, ap, drop, arith}
use Rattle.std.specs.Int.Bits.{bit_xor}
use Rattle.std.proofs.lemmas.List.{get_or-drop}
use Rattle.ls_sums.specs.Window.{number_of_words, moved}
use Rattle.ls_sums.proofs.MovedLemmas.{four}
use Rattle.ls_sums.proofs.WindowLemmas.{Behind, last_start, last_next, last_end}
use Rattle.ls_sums.proofs.window.last_block.Goals as goal

pub loop-at-init : goal.loop-at-init
loop-at-init c = λ register. last_start register (moved (number_of_words c.args.ring.now))

pub loop-at-preserved : goal.loop-at-preserved
loop-at-preserved c = λ register.
    let ring = c.args.ring.now in
    let at = c.loop-at.at in
    let here : at ≡ at + 0 = omega arith in
    let is_moved = four c.word_at.result c.word_at-in-loop-at.result c.word_at-in-loop-at-2.result
    c.word_at-in-loop-at-3.result
    (get_or (drop at ring) 4 0) (get_or (drop at ring) 3 0) (get_or (drop at ring) 1 0) (get_or (drop at ring) 0 0)
    (c.word_at.ensures ∙ sym (get_or-drop at ring 4 0)) (c.word_at-in-loop-at.ensures ∙ sym (get_or-drop at ring 3 0))
    (c.word_at-in-loop-at-2.ensures ∙ sym (get_or-drop at ring 1 0))
    (c.word_at-in-loop-at-3.ensures ∙ ap (λ (i : ℕ). get_or ring i 0) here ∙ sym (get_or-drop at ring 0 0)) in
    ap (λ (x : ℕ). bit_xor x (moved (number_of_words (drop (at + 1) ring)))) c.after_word-after.ensures
    ∙ last_next ring c.args.words.now at c.word_of.result _ c.loop-at.after register (λ i. (c.type_inv.ring i).fits)
    (omega arith) (omega arith) c.word_of.ensures is_moved (c.loop-at.invariant register)

pub returns : goal.returns
returns c = λ register holds.
    let end : c.loop-at.at ≡ 64 = omega arith in
    last_end c.args.ring.now c.args.words.now c.loop-at.after register c.requires.ring c.requires.block holds
    (subst (λ (at : ℕ). Behind c.args.ring.now c.args.words.now at c.loop-at.after register) end
    (c.loop-at.invariant register))
