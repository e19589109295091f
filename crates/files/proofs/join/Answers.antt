-- `files::join` meets its contract. Assumes nothing.
use Rattle.std.proofs.Common.{rules}
use Rattle.text.proofs.PageLaws.{adds_then, on-buffer}
use Rattle.files.proofs.Joins.{joined}
use Rattle.files.proofs.join.Goals as goal

pub returns : goal.returns
returns c =
    let a = c.args in
    let all = adds_then (adds_then c.push_bytes.ensures c.push_bytes-2.ensures) c.push_bytes-3.ensures in
    joined a.out.now a.before.now a.name.now a.behind.now c.requires (on-buffer c.new-page.ensures.bytes c.new-page.ensures.start all (search rules))
