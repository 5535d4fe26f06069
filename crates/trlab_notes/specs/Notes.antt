-- Notes, the verifier's knowledge before an instruction, and their order by strength.
use Rattle.std.specs.Prelude.{ℕ, ◌||◌, max, Bool, true, false, Option, Some, None, nat_eq, nat_lt, nat_le}
use Rattle.std.specs.Prelude.{if◌then◌else◌, ◌≤◌, ◌&&◌, min, IsTrue}
use Rattle.trlab_code.specs.declared.{program.Kind.Kind, instruction.Input.Input}
use Rattle.trlab_code.specs.declared.instruction.Input.TheVariants.{Speed, Limit, Gap, SideGap, SideBack}
use Rattle.trlab_code.specs.declared.instruction.{Input.TheVariants.{Lane, Headspeed}, Variable.Variable}
use Rattle.trlab_code.specs.Machine.{variable_number, allows_input}
use Rattle.trlab_code.specs.declared.instruction.Variable.TheVariants as variable
use Rattle.trlab_bounds.specs.declared.roads.TheConstants.{MAX_LIMIT, MAX_GAP}
use Rattle.trlab_notes.specs.declared.note.{TheConstants.{AT_MOST, BELOW}, AbstractValue.AbstractValue}
use Rattle.trlab_notes.specs.declared.note.AbstractValue.TheVariants.{Unknown, Between, Implies}

-- Notes: the verifier's knowledge of the values before an instruction, on every path that leads there.

-- a note, which is an abstract state: the abstract value of each variable, the level of each variable to
-- each, and whether the side cell is known to be empty. The level of x to y is BELOW = 2 if x is known to
-- be below y, AT_MOST = 1 if x is known to be at most y, and otherwise 0
pub record Note : Type 0 where
  pub values : Variable → AbstractValue
  pub level : Variable → Variable → ℕ
  pub side : Bool

-- are x and y the same variable?
abbrev pub same_variable : Variable → Variable → Bool
same_variable x y = nat_eq (variable_number x) (variable_number y)

-- an abstract value refined by `side`: if the side cell is known to be empty, each flag implies that it is;
-- other abstract values stay as they are
abbrev pub with_side : Bool → AbstractValue → AbstractValue
with_side side Unknown = Unknown
with_side side (Between lo hi) = Between lo hi
with_side side (Implies implied) = Implies (implied || side)

-- the abstract value of variable x in a note, refined by the note's knowledge of the side cell
unfoldable pub value_with_side : Note → Variable → AbstractValue
value_with_side note x = with_side note.side (note.values x)

-- the smallest number of a range; 0 for other abstract values
abbrev pub low : AbstractValue → ℕ
low (Between lo hi) = lo
low _ = 0

-- the largest number of a range; 0 for other abstract values
abbrev pub high : AbstractValue → ℕ
high (Between lo hi) = hi
high _ = 0

-- does this abstract value imply that the side cell is empty? It does if it is a flag that is true only if
-- that cell is empty
abbrev pub implies : AbstractValue → Bool
implies (Implies implied) = implied
implies _ = false

-- the level that follows from ranges, of a number of at most hi to a number of at least lo: BELOW if hi is
-- below lo, AT_MOST if they are equal, otherwise 0
abbrev pub range_level : ℕ → ℕ → ℕ
range_level hi lo = if nat_lt hi lo then BELOW else (if nat_le hi lo then AT_MOST else 0)

-- the known level of one variable to another, from their abstract values, whether they are the same variable,
-- and the level of the first to the second in a note: AT_MOST if they are the same, otherwise this level
-- or the level of their ranges, whichever is larger; 0 if one of them is not a number
abbrev pub level_between : AbstractValue → AbstractValue → Bool → ℕ → ℕ
level_between (Between x_lo x_hi) (Between y_lo y_hi) true level = AT_MOST
level_between (Between x_lo x_hi) (Between y_lo y_hi) false level = max level (range_level x_hi y_lo)
level_between _ _ same level = 0

-- the known level of x to y in a note: `level_between` of their abstract values and of their level in the
-- note. For example, it is BELOW if x has the range 0 to 3 and y the range 5 to 9
unfoldable pub known_level : Note → Variable → Variable → ℕ
known_level note x y = level_between (note.values x) (note.values y) (same_variable x y) (note.level x y)

-- the closure of a note under its ranges: each level is the known level, so that the order of two variables
-- that follows from their ranges is a level too. Levels are not chained through a third variable
unfoldable pub closure : Note → Note
closure note = record note { level = known_level note }

-- the closure of a note, if there is one
abbrev pub maybe_closure : Option Note → Option Note
maybe_closure None = None
maybe_closure (Some note) = Some (closure note)

-- the range of an input over all legal roads: its minimum and its maximum
abbrev pub input_range : Input → AbstractValue
input_range Speed = Between 0 MAX_LIMIT
input_range Limit = Between 1 MAX_LIMIT
input_range Gap = Between 0 MAX_GAP
input_range SideGap = Between 0 MAX_GAP
input_range SideBack = Between 0 MAX_GAP
input_range Lane = Between 0 1
input_range Headspeed = Between 0 MAX_LIMIT

-- the abstract value of a variable at the start of a program of kind `kind`: inputs that the program may read
-- have their ranges, and nothing is known of registers and other inputs
abbrev pub entry_values : Kind → Variable → AbstractValue
entry_values kind (variable.Register r) = Unknown
entry_values kind (variable.Input k) = if allows_input kind k then input_range k else Unknown

-- the level of one variable to another at the start of a program: speed and headspeed are at most the limit,
-- and nothing else is known
abbrev pub entry_level : Variable → Variable → ℕ
entry_level (variable.Input Speed) (variable.Input Limit) = AT_MOST
entry_level (variable.Input Headspeed) (variable.Input Limit) = AT_MOST
entry_level _ _ = 0

-- the entry note: the knowledge at the start of every program of kind `kind`
unfoldable pub entry : Kind → Note
entry kind = record { values = entry_values kind; level = entry_level; side = false }

-- The order of notes by strength, and the join of two notes.

-- an abstract value is no more precise than another: it is `Unknown`; or a range that contains the other
-- range, as `Between 0 9` contains `Between 2 5`; or a flag that implies an empty side cell only if the other
-- flag does
abbrev pub IsNoMorePrecise : AbstractValue → AbstractValue → Type 0
IsNoMorePrecise Unknown other = Unit {0}
IsNoMorePrecise (Between lo hi) (Between least most) = (lo ≤ least) × (most ≤ hi)
IsNoMorePrecise (Implies implied) (Implies other) = IsTrue implied → IsTrue other
IsNoMorePrecise _ _ = ⊥

-- note m is no stronger than note n: it knows no more of the values, of the order and of the side cell
pub record IsNoStronger (m n : Note) : Type 0 where
  pub values : (x : Variable) → IsNoMorePrecise (value_with_side m x) (value_with_side n x)
  pub order : (x y : Variable) → known_level m x y ≤ known_level n x y
  pub beside : IsTrue m.side → IsTrue n.side

-- of two notes, either of which may be missing, the first is no stronger than the second; if one is missing,
-- so is the other
abbrev pub AreNoStronger : Option Note → Option Note → Type 0
AreNoStronger None None = Unit {0}
AreNoStronger (Some m) (Some n) = IsNoStronger m n
AreNoStronger _ _ = ⊥

-- the common knowledge of two abstract values: the range from the smaller lower end of two ranges to the
-- larger upper end, for example `Between 0 9` for `Between 0 3` and `Between 5 9`, and `Between 5 9` for the
-- empty range `Between 5 3` and `Between 7 9`; a flag that implies an empty side cell if both flags do;
-- otherwise `Unknown`
abbrev pub join_values : AbstractValue → AbstractValue → AbstractValue
join_values (Between lo hi) (Between least most) = Between (min lo least) (max hi most)
join_values (Implies implied) (Implies other) = Implies (implied && other)
join_values _ _ = Unknown

-- the join of notes m and n, the strongest note that is no stronger than either: their common knowledge of
-- the values, the order and the side cell
unfoldable pub join : Note → Note → Note
join m n = record {
  values = λ x. join_values (value_with_side m x) (value_with_side n x);
  level = λ x y. min (known_level m x y) (known_level n x y);
  side = m.side && n.side;
}
