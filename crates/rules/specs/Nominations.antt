-- 01, Nominations and matching: pairs, marks, lower values, confirmed MW.
-- Assumes nothing.
use Rattle.std.specs.Prelude.{ℕ, ◌+◌, ◌*◌, ◌/◌, min, Bool, false, if◌then◌else◌, ◌||◌, ◌&&◌, List, [], ◌∷◌, nat_lt, ◌==◌, get_or}
use Rattle.rules.specs.Basics.{no_mw, map_of}
use Rattle.rules.specs.Book.{Right, Pair, right}

-- ---- pairs

-- the sender is the out party on side 0 and the in party on side 1
abbrev pub out_of : ℕ → ℕ → ℕ → ℕ
out_of sender other side = if side == 0 then sender else other

abbrev pub into_of : ℕ → ℕ → ℕ → ℕ
into_of sender other side = if side == 0 then other else sender

-- the pair of a right, out party and in party
unfoldable pub is_pair_of : ℕ → ℕ → ℕ → Pair → Bool
is_pair_of r o i x = x.right == r && x.out == o && x.into == i

unfoldable pub pair_taken : ℕ → ℕ → ℕ → List Pair → Bool
pair_taken r o i [] = false
pair_taken r o i (x ∷ xs) = is_pair_of r o i x || pair_taken r o i xs

abbrev pub empty_pair : ℕ → ℕ → ℕ → Pair
empty_pair r o i = record { right = r; out = o; into = i; out_mw = no_mw; into_mw = no_mw }

-- the pair, or one whose sides were never sent
unfoldable pub pair_of : ℕ → ℕ → ℕ → List Pair → Pair
pair_of r o i [] = empty_pair r o i
pair_of r o i (x ∷ xs) = if is_pair_of r o i x then x else pair_of r o i xs

-- a pair with the MW of one side replaced
unfoldable pub with_side : ℕ → List ℕ → Pair → Pair
with_side side mw x =
    record {
      right = x.right;
      out = x.out;
      into = x.into;
      out_mw = if side == 0 then mw else x.out_mw;
      into_mw = if side == 0 then x.into_mw else mw;
    }

-- a nomination replaces the old one of the same pair and side, or makes a pair
unfoldable pub with_pair : ℕ → ℕ → ℕ → ℕ → List ℕ → List Pair → List Pair
with_pair r o i side mw [] = with_side side mw (empty_pair r o i) ∷ []
with_pair r o i side mw (x ∷ xs) = if is_pair_of r o i x then with_side side mw x ∷ xs else x ∷ with_pair r o i side mw xs

-- ---- marks

abbrev pub side_of : ℕ → Pair → List ℕ
side_of side x = if side == 0 then x.out_mw else x.into_mw

-- a side's total under a right, in hour k of its session
unfoldable pub side_total : ℕ → ℕ → ℕ → List Pair → ℕ
side_total r side k [] = 0
side_total r side k (x ∷ xs) = (if x.right == r then get_or (side_of side x) k 0 else 0) + side_total r side k xs

-- it is above the right
unfoldable pub above_right : List Right → List Pair → ℕ → ℕ → ℕ → Bool
above_right rs ps r side k = nat_lt (get_or (right rs r).mw k 0) (side_total r side k ps)

-- bit 0 marks the first hour
unfoldable pub marks : List Right → List Pair → ℕ → ℕ → ℕ
marks rs ps r side =
    map_of (above_right rs ps r side 0 ∷ above_right rs ps r side 1 ∷ above_right rs ps r side 2 ∷ above_right rs ps r side 3 ∷ above_right rs ps r side 4 ∷ [])

-- ---- matching

-- the count of all rights of a direction and session
unfoldable pub count_rights : ℕ → ℕ → List Right → ℕ
count_rights d s [] = 0
count_rights d s (x ∷ xs) = (if x.direction == d && x.session == s then 1 else 0) + count_rights d s xs

-- a pair's m in hour k of the session: the lower of its two sides
abbrev pub lower : ℕ → Pair → ℕ
lower k x = min (get_or x.out_mw k 0) (get_or x.into_mw k 0)

-- T: the sum of m over the pairs of right r
unfoldable pub lower_total : ℕ → ℕ → List Pair → ℕ
lower_total r k [] = 0
lower_total r k (x ∷ xs) = (if x.right == r then lower k x else 0) + lower_total r k xs

-- confirmed of m, where the right has R and the sum of m is T
unfoldable pub confirmed_of : ℕ → ℕ → ℕ → ℕ
confirmed_of R T m = if nat_lt R T then m * R / T else m

-- the confirmed MW of a pair in hour k of the session
unfoldable pub confirmed_at : List Right → List Pair → ℕ → Pair → ℕ
confirmed_at rs ps k x = confirmed_of (get_or (right rs x.right).mw k 0) (lower_total x.right k ps) (lower k x)
