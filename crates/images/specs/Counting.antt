-- What is counted of an image.
use Rattle.std.specs.Prelude.{List, [], ◌∷◌, Bool}

-- the only count beside that of all is of images that came to what was expected
abbrev pub tests_of : Bool → List Bool
tests_of agrees = agrees ∷ []
