-- `text::Page::push_bytes` meets its contract: what stands before and behind the bytes stays. Assumes nothing.
use Rattle.std.proofs.Common.{refl, rules}
use Rattle.text.proofs.WriteLaws.{wrote_part}
use Rattle.text.proofs.PageLaws.{adds}
use Rattle.text.proofs.Page.push_bytes.Goals as goal

pub returns : goal.returns
returns c = adds refl (search (rules, wrote_part))
