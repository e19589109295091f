-- What the contracts of `answers` cite: `Answers` has the answer to a request, `Texts` how answers and rows are written, `Show` how rows are shown one after another.
pub mod Answers
pub mod Texts
pub mod Show
