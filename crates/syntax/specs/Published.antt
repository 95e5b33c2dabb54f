-- THE GRAMMAR OF THE LANGUAGE, as 001 (sections 3 to 7) and 003 publish it and document 01 cuts it. It is to be
-- believed: above each production stands its line of BNF. What a grammar derives (`Text`, `StopsAt`) is defined in the
-- crate `grammar`, for any grammar; how one is read is proved.
use Prim.Native.String.{String}
use Rattle.std.specs.Prelude.{[], ◌∷◌}
use Rattle.token.specs.declared.Token.TheVariants.{Name, Number, Bits}
use Rattle.token.specs.Bytes.{bytes}
use Rattle.token.specs.Kind.{kind_of}
use Rattle.token.specs.Scan.{scan_at}
use Rattle.grammar.specs.Grammar.{Grammar, tok, ◌▸◌, ◌∣◌, opt, many, rule, some_of, separated, Rules}

-- a word or a sign, by its kind: what is written in quotes is scanned
unfoldable pub lit : String → Grammar
lit s = tok (kind_of (scan_at (bytes s) 0).token)

abbrev pub ident : Grammar
ident = tok (kind_of (Name 0 0))

abbrev pub integer_literal : Grammar
integer_literal = tok (kind_of (Number 0 0))

abbrev pub bits-literal : Grammar
bits-literal = tok (kind_of (Bits 0 0))

-- binary-operator ::= + | - | * | / | %
abbrev pub binary_operator : Grammar
binary_operator = lit "+" ∣ lit "-" ∣ lit "*" ∣ lit "/" ∣ lit "%"

-- The one rule that recursion needs, number 0. It is ambiguous: precedence says how an expression is read, and not
-- which there are.
abbrev pub expr : Grammar
expr = rule 0

-- expr ::= integer-literal | ( expr ) | - expr | expr binary-operator expr
unfoldable pub published : Rules
published =
    record { body = integer_literal ∣ lit "(" ▸ expr ▸ lit ")" ∣ lit "-" ▸ expr ∣ expr ▸ binary_operator ▸ expr; more = [] } ∷ []

-- integer-range ::= integer-literal | integer-literal .. integer-literal
abbrev pub integer_range : Grammar
integer_range = integer_literal ▸ opt (lit ".." ▸ integer_literal)

-- integer-ranges ::= integer-range (, integer-range)*
abbrev pub integer_ranges : Grammar
integer_ranges = separated (lit ",") integer_range

-- the type of a parameter and of a register: bit [ integer-literal ]
abbrev pub bit-type : Grammar
bit-type = lit "bit" ▸ lit "[" ▸ integer_literal ▸ lit "]"

-- device-param ::= ident : bit-type port (@ { integer-ranges })?
abbrev pub device-param : Grammar
device-param = ident ▸ lit ":" ▸ bit-type ▸ lit "port" ▸ opt (lit "@" ▸ lit "{" ▸ integer_ranges ▸ lit "}")

-- rw ::= read | write
abbrev pub rw-mark : Grammar
rw-mark = lit "read" ∣ lit "write"

-- register-port ::= (rw)? ident (@ expr)?
abbrev pub register-port : Grammar
register-port = opt rw-mark ▸ ident ▸ opt (lit "@" ▸ expr)

-- register-attribute ::= (rw)? mask bits-literal
abbrev pub register_attribute : Grammar
register_attribute = opt rw-mark ▸ lit "mask" ▸ bits-literal

-- register-definition ::= register ident = register-port (, register-port)? (, register-attribute)* : bit-type
abbrev pub register_definition : Grammar
register_definition =
    lit "register" ▸ ident ▸ lit "=" ▸ register-port ▸ (opt (lit "," ▸ register-port) ▸ many (lit "," ▸ register_attribute)) ▸ lit ":" ▸ bit-type

-- register-bits ::= piece (# piece)*, piece ::= ident ([ integer-ranges ])?
abbrev pub register-bits : Grammar
register-bits = separated (lit "#") (ident ▸ opt (lit "[" ▸ integer_ranges ▸ lit "]"))

-- var-regs ::= (rw)? register-bits
abbrev pub var_regs : Grammar
var_regs = opt rw-mark ▸ register-bits

-- var-attribute ::= volatile | (rw)? trigger
abbrev pub var_attribute : Grammar
var_attribute = lit "volatile" ∣ opt rw-mark ▸ lit "trigger"

-- type-expr ::= (signed)? int (integer-literal) | bool
abbrev pub type-expr : Grammar
type-expr = opt (lit "signed") ▸ lit "int" ▸ lit "(" ▸ integer_literal ▸ lit ")" ∣ lit "bool"

-- variable-definition ::= variable ident = var-regs (, var-regs)? (, var-attribute)* : type-expr
abbrev pub variable_definition : Grammar
variable_definition =
    lit "variable" ▸ ident ▸ lit "=" ▸ var_regs ▸ (opt (lit "," ▸ var_regs) ▸ many (lit "," ▸ var_attribute)) ▸ lit ":" ▸ type-expr

-- device-spec ::= device ident (device-params) { (object-def;)+ }, object-def ::= register-definition |
-- variable-definition
abbrev pub device-spec : Grammar
device-spec =
    (lit "device" ▸ ident ▸ lit "(" ▸ separated (lit ",") device-param ▸ lit ")")
    ▸ lit "{" ▸ some_of ((register_definition ∣ variable_definition) ▸ lit ";") ▸ lit "}"
