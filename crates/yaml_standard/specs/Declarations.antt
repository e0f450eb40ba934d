-- What the directives of a document have declared (YAML 1.2.2, 6.8.1 and 6.8.2).
use Rattle.std.specs.Prelude.{ℕ, List, [], ◌∷◌, IsTrue}
use Rattle.std.specs.BTreeSet.{contains_by}
use Rattle.std.specs.Cmp.Lexicographic.{slice_cmp}
use Rattle.std.specs.Ordering.{nat_cmp}
use Rattle.saphyr_scanner.specs.Grammar.Forest.{Directive, Version, TagPrefix, Reserved, handle_bytes, GoesWith, AreCompatible}
use Rattle.yaml_laws.specs.Grammar.Yaml.{AreDirectives}
use Rattle.yaml_standard.specs.Directives.{IsOfKind}
use Rattle.yaml_standard.specs.declared.declared.Declared.{Declared}
use Rattle.yaml_standard.specs.declared.directive.DirectiveKind.{DirectiveKind}

abbrev pub IsDeclared : Declared → Directive → Type 0
IsDeclared declared (Version major minor) = IsTrue declared.has_version
IsDeclared declared (TagPrefix handle prefix) =
    IsTrue (contains_by (λ k. slice_cmp nat_cmp (handle_bytes handle) k.now) declared.handles)
IsDeclared declared (Reserved name) = Unit {0}

abbrev pub AreDeclared : Declared → List Directive → Type 0
AreDeclared declared [] = Unit {0}
AreDeclared declared (d ∷ others) = IsDeclared declared d × AreDeclared declared others

-- directives that go together, each of them declared
abbrev pub AreDeclaredDirectives : Declared → List ℕ → Type 0
AreDeclaredDirectives declared t =
    (ds : List Directive) × AreDeclared declared ds × AreCompatible ds × AreDirectives ds t

-- a directive of this kind goes with all that are declared, and is declared from now on
pub record Declares (kind : DirectiveKind) (old new : Declared) : Type 0 where
  pub goes : (d e : Directive) → IsDeclared old d → IsOfKind kind e → GoesWith d e
  pub keeps : (d : Directive) → IsDeclared old d → IsDeclared new d
  pub adds : (e : Directive) → IsOfKind kind e → IsDeclared new e
