use mathlib.Core.Path.{◌≡◌, sym, ap, ◌∙◌}
use mathlib.Core.List.{List, ◌++◌}
use Prim.Native.Nat.{ℕ, suc, ◌+◌, ◌-◌}
use native.Mathlib.Numerals.{add-one}
use native.Mathlib.Omega.{arith}
use lib.ListN.{set, replicate}
use Rattle.graph.specs.Layout.{WORDS, word_at, words_from}
use Rattle.retain.proofs.Moving.{filled}
use Rattle.retain.proofs.moved_words.Goals as goal

pub loop-k-preserved : goal.loop-k-preserved
loop-k-preserved c =
    let a = c.args in
    let l = c.loop-k in
    let word = word_at a.g.now a.node in
    let front = words_from a.g.now a.node 0 in
    let r : WORDS - l.k ≡ suc (WORDS - (l.k + 1)) = omega arith in
    let z : l.k ≡ 0 + l.k = omega arith in
    ap (set l.words l.k) c.word_at.ensures
    ∙ ap (λ (ws : List ℕ). set ws l.k (word l.k)) l.invariant
    ∙ (λ i. set (front l.k ++ replicate (r i) 0) l.k (word (z i)))
    ∙ filled a.g.now a.node 0 l.k (WORDS - (l.k + 1))
    ∙ ap (λ (m : ℕ). front m ++ replicate (WORDS - (l.k + 1)) 0) (sym (add-one l.k))
