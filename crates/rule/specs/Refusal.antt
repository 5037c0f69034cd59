-- Document 01, 'Refusals', and document 02: the numbers by which an entry turns a call down.
use Rattle.std.specs.Prelude.{ℕ}
use Rattle.rule.specs.declared.Refusal.{Refusal}
use Rattle.rule.specs.declared.Refusal.TheVariants as Refusals

-- a record's length, mark, filler, unmarked number, refit without fit, or a non-finite model
abbrev pub RECORD : ℕ
RECORD = 1

-- the threshold is not finite or not above 0
abbrev pub THRESH : ℕ
THRESH = 2

-- the confidence is not strictly between 0 and 1
abbrev pub CONFIDENCE : ℕ
CONFIDENCE = 3

-- max_iters is 0 or above 100,000
abbrev pub ITERS : ℕ
ITERS = 4

-- not a whole number of marks, over 8,000 numbers, or n not the run's
abbrev pub SHAPE : ℕ
SHAPE = 5

-- a coordinate is not finite, or of magnitude above 1e9
abbrev pub POINT : ℕ
POINT = 6

-- under 4 marks, or 6 of a form
abbrev pub FEW : ℕ
FEW = 7

-- not n + 1 stop entries
abbrev pub STOPS : ℕ
STOPS = 8

-- a lent output is too short
abbrev pub ROOM : ℕ
ROOM = 9

-- a trial after the end
abbrev pub ENDED : ℕ
ENDED = 10

-- a winner is asked for and none is held
abbrev pub NONE : ℕ
NONE = 11

-- the points have no spread
abbrev pub SPREAD : ℕ
SPREAD = 12

-- the sheet side is collinear
abbrev pub SHEET_LINE : ℕ
SHEET_LINE = 13

-- the pixel side is collinear
abbrev pub PIXEL_LINE : ℕ
PIXEL_LINE = 14

-- the root of a NaN or a negative number; a coefficient that is not finite or of magnitude above 1e100
abbrev pub NUMBER : ℕ
NUMBER = 15

-- the row ratio is not finite, or not from 0.01 to 100
abbrev pub RATIO : ℕ
RATIO = 16

-- a number of the camera is not finite, or of magnitude above 1e9
abbrev pub CAMERA : ℕ
CAMERA = 17

-- two marks have one position and two pixels
abbrev pub DOUBLE : ℕ
DOUBLE = 18

-- From here to 23: named now, and no call answers them yet.

-- a number has no equal binary32
abbrev pub NARROW : ℕ
NARROW = 19

-- a point of a path can't be mapped
abbrev pub PATH : ℕ
PATH = 20

-- n, the sample size or the confidence that a stop list is made of is out of range
abbrev pub PLAN : ℕ
PLAN = 21

-- no thresholds, over 16 of them, or one that isn't below the next
abbrev pub LADDER : ℕ
LADDER = 22

-- a side or a cosine is out of range
abbrev pub TRIANGLE : ℕ
TRIANGLE = 23

-- the number of each refusal of the code
abbrev pub number_of : Refusal → ℕ
number_of Refusals.Record = RECORD
number_of Refusals.Thresh = THRESH
number_of Refusals.Confidence = CONFIDENCE
number_of Refusals.Iters = ITERS
number_of Refusals.Shape = SHAPE
number_of Refusals.Point = POINT
number_of Refusals.Few = FEW
number_of Refusals.Stops = STOPS
number_of Refusals.Room = ROOM
number_of Refusals.Ended = ENDED
number_of Refusals.NoWinner = NONE
number_of Refusals.Spread = SPREAD
number_of Refusals.SheetLine = SHEET_LINE
number_of Refusals.PixelLine = PIXEL_LINE
number_of Refusals.Number = NUMBER
number_of Refusals.Ratio = RATIO
number_of Refusals.Camera = CAMERA
number_of Refusals.Double = DOUBLE
number_of Refusals.Narrow = NARROW
number_of Refusals.Path = PATH
number_of Refusals.Plan = PLAN
number_of Refusals.Ladder = LADDER
number_of Refusals.Triangle = TRIANGLE
