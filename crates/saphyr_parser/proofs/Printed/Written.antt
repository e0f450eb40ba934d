-- What a writer took, piece after piece.
use Rattle.std.proofs.Common.{◌≡◌, ℕ, ◌-◌, ◌<◌, List, [], ◌++◌, length, take, drop, Option, Result, Ok, Err, IsErr, refl, sym, ap, ◌∙◌, append_assoc, append-nil, length-append, take-append-drop, arith}
use Rattle.std.proofs.Math.Seq.{take-length}
use Rattle.std.proofs.lemmas.List.{take_rest}
use Rattle.std.specs.Io.KnownBytes.{Appends, Keeps}
use Rattle.std.proofs.KnownBytes.{Appends-trans, Appends-nil, Appends-kept}
use Rattle.saphyr_parser.specs.declared.printing.writing.Unwritten.{Unwritten}
use Rattle.saphyr_parser.specs.Runs.{TakesBeginning}
use Rattle.saphyr_parser.specs.Written.{Takes, TakesSome, TakesUpTo}

-- the first piece was taken, and then what was taken of the second
pub takes_more : (r : Result (Unit {0}) Unwritten) (a b c : Option (List ℕ)) (bs cs : List ℕ) → Appends a b bs
    → Takes r b c cs → Takes r a c (bs ++ cs)
takes_more (Ok u) a b c bs cs p q = Appends-trans a b c bs cs p q
takes_more (Err e) a b c bs cs p q = record {
  front = bs ++ q.front;
  back = q.back;
  split = ap (λ l. bs ++ l) q.split ∙ sym (append_assoc bs q.front q.back);
  missing = q.missing;
  taken = Appends-trans a b c bs q.front p q.taken;
}

-- the second piece was not begun
pub takes_less : (a b : Option (List ℕ)) (bs cs : List ℕ) → TakesSome a b bs → TakesSome a b (bs ++ cs)
takes_less a b bs cs p = record {
  front = p.front;
  back = p.back ++ cs;
  split = ap (λ l. l ++ cs) p.split ∙ append_assoc p.front p.back cs;
  missing = (let e = length-append p.back cs in let m = p.missing in omega arith);
  taken = p.taken;
}

pub takes_first : (a : Option (List ℕ)) (bytes : List ℕ) → TakesUpTo a a bytes bytes
takes_first a bytes = record { front = []; split = refl; taken = Appends-nil a }

-- n more bytes were taken of the rest, a slice of which is left
pub takes_next : (a b c : Option (List ℕ)) (bytes rest : List ℕ) (n : ℕ) → TakesUpTo a b bytes rest
    → Appends b c (take n rest) → TakesUpTo a c bytes (take (length rest - n) (drop n rest))
takes_next a b c bytes rest n p q = record {
  front = p.front ++ take n rest;
  split = p.split ∙ ap (λ l. p.front ++ l) (sym (take-append-drop n rest))
      ∙ sym (append_assoc p.front (take n rest) (drop n rest))
      ∙ ap (λ l. (p.front ++ take n rest) ++ l) (sym (take_rest rest n));
  taken = Appends-trans a b c p.front (take n rest) p.taken q;
}

pub takes_all : (a b : Option (List ℕ)) (bytes rest : List ℕ) → rest ≡ [] → TakesUpTo a b bytes rest → Appends a b bytes
takes_all a b bytes rest e p = let whole = p.split ∙ ap (λ l. p.front ++ l) e ∙ append-nil p.front in rw whole p.taken

pub takes_none : (a b c : Option (List ℕ)) (bytes rest : List ℕ) → 0 < length rest → TakesUpTo a b bytes rest
    → Keeps b c → TakesSome a c bytes
takes_none a b c bytes rest m p q =
    record { front = p.front; back = rest; split = p.split; missing = m; taken = Appends-kept a b c p.front p.taken q }

-- the next piece was taken
pub takes_piece : (a b c : Option (List ℕ)) (bytes rest piece others : List ℕ) → rest ≡ piece ++ others
    → TakesUpTo a b bytes rest → Appends b c piece → TakesUpTo a c bytes others
takes_piece a b c bytes rest piece others e p q = record {
  front = p.front ++ piece;
  split = p.split ∙ ap (λ l. p.front ++ l) e ∙ sym (append_assoc p.front piece others);
  taken = Appends-trans a b c p.front piece p.taken q;
}

-- the next piece was not taken whole
pub loses_piece : (a b c : Option (List ℕ)) (bytes rest piece others : List ℕ) → rest ≡ piece ++ others
    → TakesUpTo a b bytes rest → TakesSome b c piece → TakesSome a c bytes
loses_piece a b c bytes rest piece others e p q = record {
  front = p.front ++ q.front;
  back = q.back ++ others;
  split = p.split ∙ ap (λ l. p.front ++ l) (e ∙ ap (λ l. l ++ others) q.split ∙ append_assoc q.front q.back others)
      ∙ sym (append_assoc p.front q.front (q.back ++ others));
  missing = (let l = length-append q.back others in let m = q.missing in omega arith);
  taken = Appends-trans a b c p.front q.front p.taken q.taken;
}

-- ## Several pieces

pub takes_before_error : (r : Result (Unit {0}) Unwritten) (a b : Option (List ℕ)) (bytes : List ℕ) → IsErr r
    → TakesSome a b bytes
    → Takes r a b bytes
takes_before_error (Ok u) a b bytes e p = absurd (cc)
takes_before_error (Err x) a b bytes e p = p

pub loses_first : (r : Result (Unit {0}) Unwritten) (a b : Option (List ℕ)) (bytes first rest : List ℕ) → IsErr r
    → TakesSome a b first → bytes ≡ first ++ rest → Takes r a b bytes
loses_first r a b bytes first rest f p e = rw e (takes_before_error r a b _ f (takes_less a b first rest p))

pub loses_second : (r : Result (Unit {0}) Unwritten) (a b c : Option (List ℕ)) (bytes first second rest : List ℕ)
    → IsErr r → Appends a b first → TakesSome b c second → bytes ≡ first ++ (second ++ rest) → Takes r a c bytes
loses_second r a b c bytes first second rest f p q e =
    rw e (takes_more r a b c first _ p (takes_before_error r b c _ f (takes_less b c second rest q)))

pub loses_third : (r : Result (Unit {0}) Unwritten) (a b c d : Option (List ℕ)) (bytes first second third rest : List ℕ)
    → IsErr r → Appends a b first → Appends b c second → TakesSome c d third
    → bytes ≡ first ++ (second ++ (third ++ rest)) → Takes r a d bytes
loses_third r a b c d bytes first second third rest f p q t e =
    rw e (takes_more r a b d first _ p (takes_more r b c d second _ q (takes_before_error r c d _ f
    (takes_less c d third rest t))))

pub takes_two : (r : Result (Unit {0}) Unwritten) (a b c : Option (List ℕ)) (bytes first second : List ℕ)
    → Appends a b first → Takes r b c second → bytes ≡ first ++ second → Takes r a c bytes
takes_two r a b c bytes first second p q e = rw e (takes_more r a b c first second p q)

pub takes_three : (r : Result (Unit {0}) Unwritten) (a b c d : Option (List ℕ)) (bytes first second third : List ℕ)
    → Appends a b first → Appends b c second → Takes r c d third → bytes ≡ first ++ (second ++ third)
    → Takes r a d bytes
takes_three r a b c d bytes first second third p q t e =
    takes_two r a b d bytes first (second ++ third) p (takes_more r b c d second third q t) e

pub takes_four : (r : Result (Unit {0}) Unwritten) (a b c d e : Option (List ℕ))
    (bytes first second third fourth : List ℕ) → Appends a b first → Appends b c second → Appends c d third
    → Takes r d e fourth → bytes ≡ first ++ (second ++ (third ++ fourth)) → Takes r a e bytes
takes_four r a b c d e bytes first second third fourth p q s t h =
    takes_three r a b c e bytes first second (third ++ fourth) p q (takes_more r c d e third fourth s t) h

-- ## By the first write, most often

-- all bytes were taken at once
pub takes_whole : (a b : Option (List ℕ)) (bytes : List ℕ) (n : ℕ) → n ≡ length bytes → Appends a b (take n bytes)
    → Appends a b bytes
takes_whole a b bytes n e p =
    let whole : take n bytes ≡ bytes = ap (λ k. take k bytes) e ∙ take-length bytes in rw (sym whole) p

-- the first n bytes were taken, and then what was taken of the rest
pub takes_rest : (r : Result (Unit {0}) Unwritten) (a b c : Option (List ℕ)) (bytes : List ℕ) (n : ℕ)
    → Appends a b (take n bytes) → Takes r b c (take (length bytes - n) (drop n bytes)) → Takes r a c bytes
takes_rest r a b c bytes n p q =
    takes_two r a b c bytes (take n bytes) (take (length bytes - n) (drop n bytes)) p q
    (sym (ap (λ l. take n bytes ++ l) (take_rest bytes n) ∙ take-append-drop n bytes))

-- nothing was taken
pub takes_nothing : (a b : Option (List ℕ)) (bytes : List ℕ) → 0 < length bytes → Keeps a b → TakesSome a b bytes
takes_nothing a b bytes m p =
    record { front = []; back = bytes; split = refl; missing = m; taken = Appends-kept a a b [] (Appends-nil a) p }

-- ## A line in one piece

pub takes_same : (r : Result (Unit {0}) Unwritten) (a b : Option (List ℕ)) (bytes others : List ℕ) → bytes ≡ others
    → Takes r a b bytes → Takes r a b others
takes_same r a b bytes others e p = rw (sym e) p

-- ## A beginning of two pieces

-- the second piece was not begun
pub begins_longer : (a b : Option (List ℕ)) (bs cs : List ℕ) → TakesBeginning a b bs → TakesBeginning a b (bs ++ cs)
begins_longer a b bs cs p = record {
  front = p.front;
  back = p.back ++ cs;
  split = ap (λ l. l ++ cs) p.split ∙ append_assoc p.front p.back cs;
  taken = p.taken;
}

-- the first piece was taken, and a beginning of the second
pub begins_behind : (a b c : Option (List ℕ)) (bs cs : List ℕ) → Appends a b bs → TakesBeginning b c cs
    → TakesBeginning a c (bs ++ cs)
begins_behind a b c bs cs p q = record {
  front = bs ++ q.front;
  back = q.back;
  split = ap (λ l. bs ++ l) q.split ∙ sym (append_assoc bs q.front q.back);
  taken = Appends-trans a b c bs q.front p q.taken;
}
