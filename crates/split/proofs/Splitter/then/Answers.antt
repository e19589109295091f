-- `Splitter::then` meets its contract. Assumes nothing.
use borrow.Author.Rules.{rules}
use mathlib.Core.List.{List, ◌++◌}
use mathlib.Core.Path.{◌≡◌, sym, ap, ◌∙◌}
use Prim.Native.Nat.{ℕ, ◌+◌, ◌-◌, ◌≤◌, ◌<◌}
use native.Mathlib.Omega.{arith}
use lib.ListN.{length, take}
use lib.Seq.{length-take-le}
use Rattle.std.proofs.lemmas.Slice.{take-put_mid}
use Rattle.requests.specs.Request.{most_bytes}
use Rattle.split.specs.Split.{Held, short, held_all}
use Rattle.split.proofs.SplitLaws.{held-short, held-long, all-long, all-over, all-fits}
use Rattle.split.proofs.Splitter.then.Goals as goal

pub returns-then-at-gt-MOST_BYTES : goal.returns-then-at-gt-MOST_BYTES
returns-then-at-gt-MOST_BYTES c =
    let a = c.args in
    let e = held-long a.self (search rules) in
    e ∙ sym (all-long a.piece.now) ∙ ap (λ (h : Held). held_all h a.piece.now) (sym e)

pub returns-then-at-piece : goal.returns-then-at-piece
returns-then-at-piece c =
    let a = c.args in
    let long : length a.self.bytes ≡ most_bytes = search rules in
    let few : a.self.len ≤ most_bytes = search rules in
    let over : most_bytes - a.self.len < length a.piece.now = search rules in
    let size = length-take-le a.self.len a.self.bytes (omega arith) in
    sym (ap (λ (h : Held). held_all h a.piece.now) (held-short a.self few) ∙ all-over (take a.self.len a.self.bytes) a.piece.now (omega arith) (omega arith))

pub returns : goal.returns
returns c =
    let a = c.args in
    let few : a.self.len ≤ most_bytes = search rules in
    let fits : a.self.len + length a.piece.now ≤ most_bytes = omega arith in
    let long : length a.self.bytes ≡ most_bytes = search rules in
    let size = length-take-le a.self.len a.self.bytes (omega arith) in
    held-short _ fits
    ∙ ap short
    (take-put_mid a.self.len _ a.self.bytes _ (a.self.len + length a.piece.now) (omega (arith, ap length c.copy_from_slice.ensures.after)) (omega arith)
    ∙ ap (λ (x : List ℕ). take a.self.len a.self.bytes ++ x) c.copy_from_slice.ensures.after)
    ∙ sym (ap (λ (h : Held). held_all h a.piece.now) (held-short a.self few) ∙ all-fits (take a.self.len a.self.bytes) a.piece.now (omega arith))
