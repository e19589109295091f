-- `cache::enter` meets its contract. Assumes nothing.
use mathlib.Core.Path.{ap, ◌∙◌, subst, subst⁻¹}
use mathlib.Core.List.{List}
use Prim.Native.Nat.{ℕ}
use lib.Dec.{T}
use Rattle.words.specs.Words.{Bytes}
use Rattle.meaning.specs.Events.{known}
use Rattle.area.specs.State.{state_of}
use Rattle.table.specs.Table.{Sound}
use Rattle.calls.specs.Calls.{Out}
use Rattle.calls.specs.Answers.{kept_number, number_of, Gives}
use Rattle.cache.specs.Here.{event_here}
use Rattle.cache.proofs.Moving.{there-sound, there-known, event-there}
use Rattle.cache.proofs.enter.Goals as goal

pub enter_row-requires : goal.enter_row-requires
enter_row-requires c =
    let l = c.args.a.now in
    let e = c.args.event.happening in
    let g = c.args.event.state in
    let bytes : Bytes l = λ p. (c.slice_known-1.given p).fits in (
      subst⁻¹ Sound c.move_on.ensures (there-sound l c.requires.0 bytes e g c.requires.2 c.requires.3),
      subst⁻¹ (λ (m : List ℕ). T (known (state_of m).roles e)) c.move_on.ensures (there-known l c.requires.0 bytes e g c.requires.2 c.requires.3 c.requires.1),
    )

pub returns : goal.returns
returns c =
    let l = c.args.a.now in
    let p = c.args.event.permission in
    let e = c.args.event.happening in
    let g = c.args.event.state in
    let bytes : Bytes l = λ p. (c.slice_known-1.given p).fits in
    subst (λ (o : Out). Gives o (number_of kept_number c.enter_row.result) c.enter_row.new.a)
    (ap (λ (m : List ℕ). event_here m p e) c.move_on.ensures ∙ event-there l c.requires.0 bytes e g c.requires.2 c.requires.3 p) c.enter_row.ensures
