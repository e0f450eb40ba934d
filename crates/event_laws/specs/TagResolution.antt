-- The tags of nodes, with prefixes in place of handles (YAML 1.2.2, 6.8.2 and 6.9.1).
-- Each definition looks back at the parts that come before, the latest first.
use Rattle.std.specs.Prelude.{ℕ, Bool, if◌then◌else◌, List, [], ◌∷◌, Option, Some, None, option_map, codes, encode_utf8_all}
use Rattle.std.specs.Option.{option_or}
use Rattle.std.specs.Str.{bytes_eq}
use Rattle.saphyr_scanner.specs.Grammar.Forest.{Handle, Primary, Secondary, Named, handle_bytes, Tag, NonSpecific, Verbatim, Shorthand, Directive, Version, TagPrefix, Reserved}
use Rattle.saphyr_machine.specs.Events.{ResolvedTag}
use Rattle.event_laws.specs.Preorder.{Part, opens_document, directives_of}

-- the prefix that a document's directives declare for a handle
abbrev pub prefix_in : Handle → List Directive → Option (List ℕ)
prefix_in handle [] = None
prefix_in handle (TagPrefix other prefix ∷ others) =
    if bytes_eq (handle_bytes handle) (handle_bytes other) then Some (encode_utf8_all prefix) else prefix_in handle
    others
prefix_in handle (Version _ _ ∷ others) = prefix_in handle others
prefix_in handle (Reserved _ ∷ others) = prefix_in handle others

-- The prefix that is declared for a handle: by the document itself, and else, where prefixes are kept, by the latest
-- document before that declares one.
abbrev pub prefix_declared_for : Bool → Handle → List Part → Option (List ℕ)
prefix_declared_for keep handle [] = None
prefix_declared_for keep handle (part ∷ front) =
    if opens_document part then option_or (prefix_in handle (directives_of part))
    (if keep then prefix_declared_for keep handle front else None) else prefix_declared_for keep handle front

-- what a handle stands for that is not declared; a named one has to be
abbrev pub default_prefix : Handle → Option (List ℕ)
default_prefix Primary = Some (codes "!")
default_prefix Secondary = Some (codes "tag:yaml.org,2002:")
default_prefix (Named _) = None

abbrev pub prefix_of : Bool → Handle → List Part → Option (List ℕ)
prefix_of keep handle front = option_or (prefix_declared_for keep handle front) (default_prefix handle)

-- A tag with its prefix, which is empty for `!` and `!<uri>`.
abbrev pub resolution : Bool → Tag → List Part → Option ResolvedTag
resolution keep NonSpecific front = Some (record { handle = []; suffix = codes "!" })
resolution keep (Verbatim uri) front = Some (record { handle = []; suffix = encode_utf8_all uri })
resolution keep (Shorthand handle suffix) front =
    option_map (λ prefix. record { handle = prefix; suffix = encode_utf8_all suffix }) (prefix_of keep handle front)

-- the same of a tag that may be absent
abbrev pub any_resolution : Bool → Option Tag → List Part → Option (Option ResolvedTag)
any_resolution keep None front = Some None
any_resolution keep (Some tag) front = option_map Some (resolution keep tag front)
