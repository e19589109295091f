-- What the contracts and theorems of `sheet` cite: `Text` has the sheet, `Sheet` the call that writes it, `Says` what is proved of both; `Readings` has sheets byte by byte.
pub mod Text
pub mod Sheet
pub mod Says
pub mod Readings
