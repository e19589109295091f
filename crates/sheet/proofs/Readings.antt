-- The readings of the sheet, by computing them. Assumes nothing.
use mathlib.Core.Path.{◌≡◌, refl}
use native.Mathlib.Omega.{arith}
use lib.ListN.{length}
use Rattle.roles.specs.Sets.{has, single, all_below, common, without, shares, part_of, lowest, outside, roles_from, roles_of}
use Rattle.meaning.specs.Lists.{any, keep}
use Rattle.meaning.specs.Rows.{Good, has_part, decide}
use Rattle.opens.specs.Opens.{opens_good}
use Rattle.opens.proofs.OpenRules.{opens_good-law}
use Rattle.text.specs.Number.{number_text, digits}
use Rattle.names.specs.Names.{start_of, length_of, good_pair, good_pairs, good_table, Tables, part_at, name_of}
use Rattle.sheet.specs.Text.{alone, roles_of_all, name_text, names_text, parted_text, sheet_lines, sheet_text}
use Rattle.sheet.specs.Readings.{long_pairs, long_names, longest_row, Readings}

tables : Tables long_names long_names
unfolding long_pairs good_table good_pairs good_pair start_of length_of
tables = (tt, tt)

row : Good 64 longest_row
unfolding opens_good has single all_below common without shares part_of any
row = (opens_good-law 64 0 longest_row.opens (omega arith)).0 tt

longest : length (sheet_text (name_text long_names long_names) longest_row 1) ≡ 31250
unfolding long_pairs sheet_lines name_text name_of part_at start_of length_of names_text parted_text roles_of_all alone keep roles_of roles_from has number_text digits decide single all_below part_of without common has_part any outside lowest
longest = refl

pub readings : Readings
unfolding sheet_lines name_text name_of part_at start_of length_of names_text parted_text roles_of_all alone keep roles_of roles_from has number_text digits decide part_of without common has_part any outside lowest
readings = record { denied = refl; allowed = refl; undecided = refl; longest-tables = tables; longest-row = row; longest = longest }
