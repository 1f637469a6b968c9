-- `rows::given_line` meets its contract: the digits stand third and fourth among the words of a vector.
use mathlib.Core.Path.{refl}
use Rattle.words.specs.Words.{hex_byte, middle_of}
use Rattle.rows.proofs.given_line.Goals as goal

pub returns : goal.returns
unfolding middle_of hex_byte
returns c = rw c.middle-words.ensures refl
