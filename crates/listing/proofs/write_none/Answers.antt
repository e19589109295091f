-- `listing::write_none` meets its contract. Assumes nothing.
use mathlib.Core.Path.{◌≡◌, ap, sym, ◌∙◌}
use mathlib.Core.List.{List, ◌++◌}
use Prim.Native.Nat.{ℕ}
use lib.ListN.{length, replicate, drop, length-replicate}
use lib.Seq.{length-take-le}
use Rattle.text.proofs.WriteLaws.{in-front}
use Rattle.listing.specs.Listing.{no_names}
use Rattle.listing.proofs.write_none.Goals as goal

pub returns : goal.returns
returns c =
    let d = c.args.out.now in
    let long : length no_names ≡ 256 = length-replicate {A = ℕ} 256 0 in
    let zeros : c.fill.new.self ≡ no_names = c.fill.ensures.after (λ y p. p) ∙ ap (λ (n : ℕ). replicate n 0) (length-take-le 256 d c.requires) in
    record {
      bytes = ap (λ (z : List ℕ). z ++ drop 256 d) zeros ∙ sym (in-front no_names d c.requires ∙ ap (λ (n : ℕ). no_names ++ drop n d) long);
      next = sym long;
    }
