-- The region: where the words stand, and the codes of the operations that are no operators.
use Rattle.std.specs.Prelude.{List, [], ◌∷◌, ℕ, zero, suc, ◌+◌, ◌*◌, get_or}

-- words of a node
abbrev pub WORDS : ℕ
WORDS = 12

-- the word of the code of a node's type
abbrev pub TYPE : ℕ
TYPE = 0

-- the word of its width
abbrev pub WIDTH : ℕ
WIDTH = 1

-- the word that says whether there is a range
abbrev pub RANGE : ℕ
RANGE = 2

-- the first of the two words of the range's minimum, the low half
abbrev pub MIN : ℕ
MIN = 3

-- the first of the two words of the range's maximum, the low half
abbrev pub MAX : ℕ
MAX = 5

-- the word of the operation's code
abbrev pub OPERATION : ℕ
OPERATION = 7

-- the word of the operation's first field
abbrev pub X : ℕ
X = 8

-- the word of its second field
abbrev pub Y : ℕ
Y = 9

-- the word of its third field
abbrev pub Z : ℕ
Z = 10

-- words of a node's key: type, range and operation
abbrev pub KEY : ℕ
KEY = 11

-- the word of a node's alias, past its key
abbrev pub ALIAS : ℕ
ALIAS = KEY

-- the word of the first node
abbrev pub FIRST : ℕ
FIRST = 1

-- the most nodes
abbrev pub LIMIT : ℕ
LIMIT = 512

-- words of the region
abbrev pub REGION : ℕ
REGION = FIRST + WORDS * LIMIT

-- where node n starts
abbrev pub node_start : ℕ → ℕ
node_start n = FIRST + WORDS * n

-- word k of node n, 0 past the region
abbrev pub word_at : List ℕ → ℕ → ℕ → ℕ
word_at g n k = get_or g (node_start n + k) 0

-- the m words of node n from word k on
abbrev pub words_from : List ℕ → ℕ → ℕ → ℕ → List ℕ
words_from g n k zero = []
words_from g n k (suc m) = word_at g n k ∷ words_from g n (suc k) m

-- the number of nodes
abbrev pub count_of : List ℕ → ℕ
count_of g = get_or g 0 0

-- ---- the codes of the operations that are no operators

-- a Constant
abbrev pub CONSTANT : ℕ
CONSTANT = 0

-- an Input
abbrev pub INPUT : ℕ
INPUT = 1

-- a Refine
abbrev pub REFINE : ℕ
REFINE = 2

-- an Effect
abbrev pub EFFECT : ℕ
EFFECT = 3

-- a Slice
abbrev pub SLICE : ℕ
SLICE = 4

-- a Concat, the last of them
abbrev pub CONCAT : ℕ
CONCAT = 5
