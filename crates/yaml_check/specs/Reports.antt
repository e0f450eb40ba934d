-- What is printed of what was found.
use Rattle.std.specs.Prelude.{◌≡◌, ℕ, List, [], ◌∷◌, ◌++◌, unwrap_or, codes, Bool, true, false, not, nat_eq, Option, None, Some}
use Rattle.std.specs.Str.{chars}
use Rattle.saphyr_parser.specs.Words.Marker.{Marker}
use Rattle.yaml_check.specs.declared.finding.Finding.{Finding}
use Rattle.yaml_check.specs.declared.finding.Findings.{Findings}
use Rattle.yaml_check.specs.declared.finding.Notes.{Notes}
use Rattle.yaml_check.specs.declared.finding.Severity.TheVariants as severity
use Rattle.yaml_check.specs.declared.told.Format.{Format}
use Rattle.yaml_check.specs.declared.told.Format.TheVariants as format
use Rattle.yaml_check.specs.declared.view.View.{View}
use Rattle.yaml_check.specs.Found.{message_of, notes_on, rule_of_problem, severity_of, words_of}
use Rattle.yaml_check.specs.Json as json
use Rattle.yaml_check.specs.Shown.{place_index, shown_text}
use Rattle.yaml_check.specs.Texts.{name_and_place}
use Rattle.yaml_check.specs.Told.{ToldSeen, severity_word}
use Rattle.yaml_check.specs.Views.{IsView, excerpt}

-- the name of a file, as it is printed
abbrev pub name_in : Format → List ℕ → List ℕ
name_in format.Text name = shown_text name
name_in format.Json name = json.json_characters (chars name)

-- the line that tells of a place
abbrev pub told_line : List ℕ → ToldSeen → List ℕ
told_line name t = name_and_place name t.span.start ++ (severity_word t.severity ++ (codes ": " ++ (t.message
    ++ codes "\n")))

-- One thing is told after what was, and the line of its place with a caret.
pub record AddsLines (name text : List ℕ) (t : ToldSeen) (old new : List ℕ) : Type 0 where
  pub view : View
  pub is_view : IsView text (place_index text t.span.start.index) t.span.start.col view
  pub told : new ≡ old ++ (told_line name t ++ excerpt view)

-- One thing is told after what was, in one of the forms, with the line of its place or without.
abbrev pub AddsTold : Format → Bool → List ℕ → List ℕ → ToldSeen → List ℕ → List ℕ → Type 0
AddsTold format.Text true name text t old new = AddsLines name text t old new
AddsTold format.Text false name text t old new = new ≡ old ++ told_line name t
AddsTold format.Json shows name text t old new = new ≡ old ++ json.object name t

-- a finding is told, under the name of its rule and with its message
pub record AddsFinding (form : Format) (shows : Bool) (name text : List ℕ) (found : Findings) (f : Finding)
    (old new : List ℕ) : Type 0 where
  pub t : ToldSeen
  pub span : t.span ≡ f.span
  pub severity : t.severity ≡ severity_of f.problem
  pub rule : t.rule ≡ rule_of_problem f.problem
  pub message : t.message ≡ message_of (words_of found.fault) f.problem
  pub told : AddsTold form shows name text t old new

-- a note is told behind something else; the line of its place isn't shown again
abbrev pub AddsNote : Format → List ℕ → List ℕ → Findings → Finding → Option Finding → List ℕ → List ℕ → Type 0
AddsNote form name text found before None old new = new ≡ old
AddsNote form name text found before (Some n) old new =
    AddsFinding form (not (nat_eq n.span.start.index before.span.start.index)) name text found n old new

-- a finding is told, and the notes on it
pub record AddsWithNotes (form : Format) (name text : List ℕ) (found : Findings) (f : Finding) (old new : List ℕ) :
    Type 0 where
  pub notes : Notes
  pub are : notes ≡ notes_on found.notes f.problem
  pub one : List ℕ
  pub two : List ℕ
  pub told : AddsFinding form true name text found f old one
  pub first : AddsNote form name text found f notes.first one two
  pub second : AddsNote form name text found (unwrap_or notes.first f) notes.second two new

-- findings are told one after the other
abbrev pub AddsAll : Format → List ℕ → List ℕ → Findings → List Finding → List ℕ → List ℕ → Type 0
AddsAll form name text found [] old new = new ≡ old
AddsAll form name text found (f ∷ fs) old new =
    (middle : List ℕ) × AddsWithNotes form name text found f old middle × AddsAll form name text found fs middle new

abbrev pub IsReport : Format → List ℕ → List ℕ → Findings → List ℕ → Type 0
IsReport form name text found bytes = AddsAll form name text found found.list.items [] bytes

abbrev first_place : Marker
first_place = record { index = 0; line = 1; col = 0 }

-- What is told of a file that can't be read: an error at its beginning, with these words.
abbrev pub unread_seen : List ℕ → ToldSeen
unread_seen message = record {
  span = record { start = first_place; end = first_place };
  severity = severity.Error;
  rule = codes "unreadable";
  message = message;
}

abbrev pub unread : Format → List ℕ → List ℕ → List ℕ
unread format.Text name message = told_line name (unread_seen message)
unread format.Json name message = json.object name (unread_seen message)
