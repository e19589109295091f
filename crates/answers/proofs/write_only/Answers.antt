-- `answers::write_only` meets its contract. Assumes nothing.
use borrow.Author.Rules.{rules}
use mathlib.Core.Path.{refl}
use Prim.Native.Nat.{ℕ, ◌+◌, ◌≤◌, ◌<◌, ◌^◌}
use native.Mathlib.Omega.{arith}
use lib.ListN.{length}
use Rattle.answers.specs.Texts.{most_text, with_role, answer_text}
use Rattle.answers.proofs.Texts.{length-answer}
use Rattle.answers.proofs.write_only.Goals as goal

room : (k a r at n : ℕ) → k < 2 ^ 64 → a < 2 ^ 32 → at + most_text ≤ n → at + length (answer_text k (with_role a r)) ≤ n
room k a r at n line answer h = omega (arith, length-answer k (with_role a r) line answer)

pub write_decided-requires : goal.write_decided-requires
write_decided-requires c =
    rw (c.new-page.ensures.bytes, c.new-page.ensures.start) (room c.args.line c.args.answer c.args.role c.args.at (length c.args.out.now) (search rules) (search rules) c.requires)

pub returns : goal.returns
returns c =
    let h = room c.args.line c.args.answer c.args.role c.args.at (length c.args.out.now) (search rules) (search rules) c.requires in
    record { row = refl; wrote = search rules; inside = omega (arith, h, c.write_decided.ensures.wrote.next, c.new-page.ensures.start) }
