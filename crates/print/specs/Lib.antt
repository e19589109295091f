-- What the contracts and theorems of `print` cite: `Printed` has the lines, `Print` the calls that write them, `Printing` what is proved of both.
pub mod Printed
pub mod Lines
pub mod Print
pub mod Printing
