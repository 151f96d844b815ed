-- `stopslayout::put_stop` meets its contract: the color, and after it the position. Assumes nothing.
use mathlib.Core.Path.{◌≡◌, refl}
use mathlib.Core.List.{List, [], ◌∷◌}
use Prim.Native.Nat.{ℕ, ◌+◌}
use native.Mathlib.Omega.{arith}
use mir.Syntax.{w32}
use mir.Val.{of_z}
use borrow.Author.Rules.{rules}
use Rattle.picture.proofs.Patches.{patch-step}
use Rattle.words.specs.Word.{word_bytes}
use Rattle.stopslayout.proofs.put_stop.Goals as goal

pub returns : goal.returns
returns c =
    let a = c.args in
    let color : List ℕ = a.s.color.red ∷ a.s.color.green ∷ a.s.color.blue ∷ a.s.color.alpha ∷ [] in
    let e : c.bits.result ≡ of_z w32 a.s.position = rw c.bits.ensures (search rules) in
    patch-step a.out.now color (word_bytes (of_z w32 a.s.position)) _ _ a.at (a.at + 4) refl (omega arith) c.put.ensures (rw (← e) c.put_word.ensures)
