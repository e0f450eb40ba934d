use Rattle.yaml_standard.proofs.Documents.{behind_marks_alone, behind_suffix}
use Rattle.yaml_standard.proofs.stream.next_place.Goals as goal

pub returns-in-None : goal.returns-in-None
returns-in-None c = behind_marks_alone _ _ c.behind_marks-marks.ensures

pub returns-in-Some : goal.returns-in-Some
returns-in-Some c = behind_suffix _ _ _ c.behind_marks-marks.ensures c.in-Some.ensures
