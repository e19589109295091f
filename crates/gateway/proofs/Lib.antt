-- What the proof of `answer_lines` cites.
mod Zeros
