-- Spaces, comments and separation (YAML 1.2.2, 6.1 to 6.7), in texts whose breaks are line feeds.
-- `indent` is the first column to the right of the enclosing block collection, and 0 at the root.
use Rattle.std.specs.Prelude.{◌≡◌, ◌≢◌, ℕ, ◌≤◌, ◌⊎◌, List, [], ◌∷◌, ◌++◌, codes}
use Rattle.saphyr_input.specs.Classes.{is_blank, is_yaml_non_break}
use Rattle.saphyr_scalar.specs.Reading.BlockLines.{spaces}
use Rattle.saphyr_scalar.specs.Spelling.Tag.{AreIn}

-- ## Any number of pieces

-- the pieces one after the other
abbrev pub joined_pieces : List (List ℕ) → List ℕ
joined_pieces [] = []
joined_pieces (piece ∷ pieces) = piece ++ joined_pieces pieces

abbrev pub AreEach : (List ℕ → Type 0) → List (List ℕ) → Type 0
AreEach P [] = Unit {0}
AreEach P (piece ∷ pieces) = P piece × AreEach P pieces

-- any number of pieces, also none, of each of which P holds
abbrev pub AreMany : (List ℕ → Type 0) → List ℕ → Type 0
AreMany P t = (pieces : List (List ℕ)) × AreEach P pieces × (t ≡ joined_pieces pieces)

-- ## Spaces and comments

-- 6.1 [63]: spaces, at least so many
abbrev pub AreSpaces : ℕ → List ℕ → Type 0
AreSpaces least t = (n : ℕ) × (least ≤ n) × (t ≡ spaces n)

-- 6.6 [75]: a comment, up to the end of its line
abbrev pub IsComment : List ℕ → Type 0
IsComment t = (words : List ℕ) × AreIn is_yaml_non_break words × (t ≡ codes "#" ++ words)

-- no comment, or one after white space, which parts it from what comes before
abbrev pub IsCommentBehind : List ℕ → List ℕ → Type 0
IsCommentBehind white t = (t ≡ []) ⊎ ((white ≢ []) × IsComment t)

-- ## Ends of lines

-- 6.6 [77]: what may come after a token on its line: blanks, and after some blanks a comment
abbrev pub IsLineRest : List ℕ → Type 0
IsLineRest t = (blanks comment : List ℕ) × AreIn is_blank blanks × IsCommentBehind blanks comment
    × (t ≡ blanks ++ comment)

-- the end of a line, with its break
abbrev pub IsLineEnd : List ℕ → Type 0
IsLineEnd t = (rest : List ℕ) × IsLineRest rest × (t ≡ rest ++ codes "\n")

-- the end of a line before `behind`: the last line may lack its break
abbrev pub IsEol : List ℕ → List ℕ → Type 0
IsEol t behind = IsLineEnd t ⊎ (IsLineRest t × (behind ≡ []))

-- 6.6, 6.4 [78]: a line of blanks, or of blanks and a comment, without its break
abbrev pub IsFillerText : List ℕ → Type 0
IsFillerText t = (front comment : List ℕ) × AreIn is_blank front × ((comment ≡ []) ⊎ IsComment comment)
    × (t ≡ front ++ comment)

abbrev pub IsFillerLine : List ℕ → Type 0
IsFillerLine t = (text : List ℕ) × IsFillerText text × (t ≡ text ++ codes "\n")

-- any number of such lines
abbrev pub IsFiller : List ℕ → Type 0
IsFiller t = AreMany IsFillerLine t

-- such lines up to the text's end, of which the last may lack its break
abbrev pub IsLastFiller : List ℕ → Type 0
IsLastFiller t = (filler text : List ℕ) × IsFiller filler × IsFillerText text × (t ≡ filler ++ text)

-- ## Separation

-- 6.3 [69]: what comes before the content of a line of its own: its indentation, and any blanks
abbrev pub IsLinePrefix : ℕ → List ℕ → Type 0
IsLinePrefix indent t = (front blanks : List ℕ) × AreSpaces indent front × AreIn is_blank blanks × (t ≡ front ++ blanks)

-- 6.7 [80], [81] in block style: blanks, or the end of the line, filler, and what comes before the next line's content
abbrev pub IsNextLine : ℕ → List ℕ → Type 0
IsNextLine indent t = (end filler front : List ℕ) × IsLineEnd end × IsFiller filler × IsLinePrefix indent front
    × (t ≡ end ++ (filler ++ front))

abbrev pub IsGap : ℕ → List ℕ → Type 0
IsGap indent t = ((t ≢ []) × AreIn is_blank t) ⊎ IsNextLine indent t

-- 6.7 [81] in flow style: blanks, a comment after some blank or none, the break, filler and the next line's
-- indentation
abbrev pub IsSeparationLine : ℕ → List ℕ → Type 0
IsSeparationLine indent t =
    (blanks comment filler : List ℕ) × AreIn is_blank blanks × IsCommentBehind blanks comment × IsFiller filler
    × (t ≡ blanks ++ (comment ++ (codes "\n" ++ (filler ++ spaces indent))))

-- any number of such lines, and blanks; it may be empty
abbrev pub IsSeparation : ℕ → List ℕ → Type 0
IsSeparation indent t = (lines blanks : List ℕ) × AreMany (IsSeparationLine indent) lines × AreIn is_blank blanks
    × (t ≡ lines ++ blanks)
